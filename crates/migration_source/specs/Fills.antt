-- A batch while it is filled (MongoDB manual, "Chunk Migration Procedure"; the limits are own).
use Rattle.std.specs.Prelude.{◌≡◌, List, ◌∷◌, ◌++◌, false, Option, Some, None, length, map}
use Rattle.std.specs.Coded.{Coded-set}
use Rattle.bson_values.specs.Tree.{Datum}
use Rattle.value_model.specs.Keys.{Bound, min_bound, key_bound}
use Rattle.history_model.specs.Documents.{Rows, document_under}
use Rattle.record_model.specs.Moves.{MovedDocument}
use Rattle.shard_records.specs.BatchCode.{moved_list_code}
use Rattle.move_model.specs.Sources.{Source}
use Rattle.move_model.specs.Batches.{document_bytes, documents_after, fitting, has_room, last_bound, members_bytes, moved}

-- the bound at the key, or below all keys
abbrev pub bound_at : Option Datum → Bound
bound_at None = min_bound
bound_at (Some key) = key_bound key

-- documents as members
abbrev pub members_of : Rows → List MovedDocument
members_of rows = map (λ row. moved row.0 (Some row.1)) rows

-- keys as members, each with its present document or none
abbrev pub members_under : Rows → List Datum → List MovedDocument
members_under rows keys = map (λ key. moved key (document_under key rows)) keys

-- each of these finds room after those before it, whatever is left after them
abbrev pub AllFit : List MovedDocument → Type 0
AllFit ms = (rest : List MovedDocument) → fitting 0 0 (ms ++ rest) ≡ ms ++ fitting (length ms) (members_bytes ms) rest

-- that has one proof at most
pub fit-prop : (ms : List MovedDocument) → IsProp (AllFit ms)
fit-prop ms = λ p q i rest. Coded-set moved_list_code (fitting 0 0 (ms ++ rest)) (ms ++ fitting (length ms) (members_bytes ms) rest) (p rest) (q rest) i

-- The documents after the cursor are these and more, and the next of them finds no room after these, of which the last has that bound.
pub record IsCut (s : Source) (rows : Rows) (ms : List MovedDocument) (upto : Bound) : Type 0 where
  pub next : MovedDocument
  pub more : List MovedDocument
  pub whole : members_of (documents_after s rows) ≡ ms ++ next ∷ more
  pub full : has_room (length ms) (members_bytes ms) (document_bytes next.document) ≡ false
  pub last : upto ≡ last_bound s.cursor ms
