-- What a write makes of the document under its key (MongoDB manual, "insert", "update", "delete", "Upsert Behavior"). One document
-- before or none, one after or none: no collection, no index, no time.
use Rattle.std.specs.Prelude.{◌≡◌, ℕ, Bool, true, Option, Some, None, Result, Ok, Err, if◌then◌else◌}
use Rattle.std.specs.Result.{result_ok}
use Rattle.std.specs.Str.{bytes_eq}
use Rattle.bson_model.specs.Tree.{Datum, Fields}
use Rattle.bson_model.specs.Spelling.{written}
use Rattle.value_model.specs.Order.{same_value}
use Rattle.value_model.specs.Keys.{key_of, valid_key}
use Rattle.query_model.specs.Holds.{holds}
use Rattle.query_model.specs.KeySpans.{key_equal}
use Rattle.query_model.specs.Edits.{WriteFault, duplicate_fault, too_large_fault, ◌>>=◌, is_too_large, changed}
use Rattle.query_model.specs.Writes.{Write, insert_write, update_write, delete_write}

-- what a write results in: the document, and its outcome
pub record Effect : Type 0 where
  pub after : Option Fields
  -- how many documents it inserted, matched or removed
  pub count : ℕ
  -- how many it changed
  pub modified : ℕ
  -- the `_id` of the document that an upsert inserted
  pub upserted : Option Datum

abbrev pub inserted : Fields → Effect
inserted document = record { after = Some document; count = 1; modified = 0; upserted = None }

-- it met no document
abbrev pub unmet : Option Fields → Effect
unmet before = record { after = before; count = 0; modified = 0; upserted = None }

-- it changed a document where the encoding is another
abbrev pub updated : Fields → Fields → Effect
updated before after = record { after = Some after; count = 1; modified = if bytes_eq (written before) (written after) then 0 else 1; upserted = None }

abbrev pub upserted_with : Fields → Effect
upserted_with document = record { after = Some document; count = 1; modified = 0; upserted = key_of document }

abbrev pub deleted : Effect
deleted = record { after = None; count = 1; modified = 0; upserted = None }

-- an update that a document does not meet
abbrev pub not_met : Option Fields → Fields → Result Effect WriteFault
not_met None before = Ok (unmet (Some before))
not_met (Some start) before = Err duplicate_fault

-- what a write makes of the document under its key, or why it changes nothing
abbrev pub effect_of : Write → Option Fields → Result Effect WriteFault
effect_of (insert_write document) None = if is_too_large document then Err too_large_fault else Ok (inserted document)
effect_of (insert_write document) (Some before) = Err duplicate_fault
effect_of (update_write asked change start) (Some before) =
    if holds asked before then (changed change before >>= λ after. Ok (updated before after)) else not_met start before
effect_of (update_write asked change None) None = Ok (unmet None)
effect_of (update_write asked change (Some start)) None = changed change start >>= λ after. Ok (upserted_with after)
effect_of (delete_write asked) (Some before) = Ok (if holds asked before then deleted else unmet (Some before))
effect_of (delete_write asked) None = Ok (unmet None)

-- what is stored under the key after a write; a fault changes nothing
abbrev pub left_by : Option Fields → Result Effect WriteFault → Option Fields
left_by before (Ok effect) = effect.after
left_by before (Err fault) = before

-- the key under which a write acts
abbrev pub write_key : Write → Option Datum
write_key (insert_write document) = result_ok (valid_key document)
write_key (update_write asked change start) = key_equal asked
write_key (delete_write asked) = key_equal asked

-- the document has a key that compares equal
abbrev pub HasSameKey : Datum → Fields → Type 0
HasSameKey key document = (k : Datum) × (key_of document ≡ Some k) × (same_value k key ≡ true)

-- no document, or one with this key
abbrev pub IsUnder : Datum → Option Fields → Type 0
IsUnder key None = Unit {0}
IsUnder key (Some document) = HasSameKey key document
