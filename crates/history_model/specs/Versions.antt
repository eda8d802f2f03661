-- Documents stored under keys at times, and the last of a key up to a time (MongoDB manual, "Read Concern \"snapshot\"").
use Rattle.std.specs.Prelude.{ℕ, List, [], ◌∷◌, Bool, ◌&&◌, Option, None, nat_le, if◌then◌else◌}
use Rattle.bson_model.specs.Tree.{Datum, Fields}
use Rattle.value_model.specs.Order.{same_value}

-- from this time on this document, or none, is under the key
pub record Put : Type 0 where
  pub key : Datum
  pub time : ℕ
  pub document : Option Fields

-- the document under a key at a time after this version is stored, given the document before
abbrev pub one_more : Put → Datum → ℕ → Option Fields → Option Fields
one_more put key time before = if same_value put.key key && nat_le put.time time then put.document else before

abbrev pub put_after : List Put → Datum → ℕ → Option Fields → Option Fields
put_after [] key time before = before
put_after (put ∷ puts) key time before = put_after puts key time (one_more put key time before)

-- the last version of a key up to a time
abbrev pub last_put : List Put → Datum → ℕ → Option Fields
last_put puts key time = put_after puts key time None
