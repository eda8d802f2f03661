-- Open cursors as plain data (MongoDB manual, "Cursors", "getMore", "killCursors").
use Rattle.std.specs.Prelude.{ℕ, ℤ, pos, ◌≤◌, List, [], ◌∷◌, Bool, false, Option, Some, None, nat_le, if◌then◌else◌, refl}
use Rattle.std.specs.Coded.{Coded, code_by, coded×, coded_ℕ, coded_list}
use Rattle.std.specs.Str.{bytes_eq}
use Rattle.bson_values.specs.Code.{fields_code}
use Rattle.bson_model.specs.Tree.{Fields}
use Rattle.pipeline_model.specs.Batches.{MayBeBatch}

-- the namespace of the documents, the time at which they were read, and those that are not returned yet
pub record OpenCursor : Type 0 where
  pub namespace : List ℕ
  pub time : ℕ
  pub remaining : List Fields

abbrev pub cursor_code : Coded OpenCursor
cursor_code =
    code_by ((List ℕ × ℕ) × List Fields) (coded× (coded× (coded_list coded_ℕ) coded_ℕ) (coded_list fields_code))
    (λ c. ((c.namespace, c.time), c.remaining)) (λ p. record { namespace = p.0.0; time = p.0.1; remaining = p.1 }) (λ c. refl)

-- the cursor, where it belongs to that namespace
abbrev pub under : List ℕ → Option OpenCursor → Option OpenCursor
under namespace None = None
under namespace (Some cursor) = if bytes_eq cursor.namespace namespace then Some cursor else None

-- a cursor without documents is closed
abbrev pub left_with : OpenCursor → List Fields → Option OpenCursor
left_with cursor [] = None
left_with cursor (document ∷ docs) = Some (record { namespace = cursor.namespace; time = cursor.time; remaining = document ∷ docs })

-- the id that a batch shows: 0 where no cursor is left
abbrev pub told_id : ℤ → Option OpenCursor → ℤ
told_id id None = pos 0
told_id id (Some cursor) = id

-- there are as many documents as the size requests
abbrev pub is_reached : Option ℕ → ℕ → Bool
is_reached None n = false
is_reached (Some most) n = nat_le most n

-- this number of the documents that remain, and no greater one, may be a batch
pub record IsLongest (size : Option ℕ) (remaining : List Fields) (n : ℕ) : Type 0 where
  pub may : MayBeBatch size remaining n
  pub longest : (m : ℕ) → MayBeBatch size remaining m → m ≤ n
