-- The cursors that routers opened, and how a list of documents is shown in batches (MongoDB manual, "Cursors", "Cursor Batches",
-- "getMore", "killCursors").
use Rattle.std.specs.Prelude.{◌≡◌, ◌≢◌, ◌⊎◌, ℕ, ℤ, pos, ◌<◌, List, [], ◌∷◌, ◌++◌, Bool, true, false, ◌==◌, ◌&&◌, Option, Some, None, length, drop, if◌then◌else◌}
use Rattle.std.specs.List.{AllByRecursion}
use Rattle.std.specs.Ordering.{int_eq}
use Rattle.std.specs.Str.{bytes_eq}
use Rattle.bson_model.specs.Tree.{Fields}
use Rattle.pipeline_model.specs.Batches.{IsBatch}
use Rattle.command_model.specs.Cursors.{Batch}
use Rattle.base_model.specs.Identities.{RequestId}

-- A cursor of a router in one of its lives: its number, the namespace of its documents, the time at which these were read, and those that remain. A cursor
-- with no remaining documents is closed; it keeps its number.
pub record Cursor : Type 0 where
  pub router : ℕ
  pub life : ℕ
  pub number : ℤ
  pub namespace : List ℕ
  pub time : ℕ
  pub remaining : List Fields

-- it has this number in the life of the request's router
abbrev pub has_number : RequestId → ℤ → Cursor → Bool
has_number id number c = (c.router == id.router) && ((c.life == id.life) && int_eq c.number number)

abbrev pub is_open : Cursor → Bool
is_open c = elim c.remaining [ [] ↦ false | document ∷ documents ↦ true ]

-- the open cursor of that number in the life of the request's router, where it belongs to that namespace
abbrev pub open_cursor : RequestId → ℤ → (namespace : List ℕ) → List Cursor → Option Cursor
open_cursor id number namespace [] = None
open_cursor id number namespace (c ∷ cursors) =
    if has_number id number c && (bytes_eq c.namespace namespace && is_open c) then Some c else open_cursor id number namespace cursors

-- the cursors after the remaining documents of one are replaced by these
abbrev pub with_remaining : RequestId → ℤ → List Fields → List Cursor → List Cursor
with_remaining id number remaining [] = []
with_remaining id number remaining (c ∷ cursors) =
    if has_number id number c then record {
      router = c.router;
      life = c.life;
      number = c.number;
      namespace = c.namespace;
      time = c.time;
      remaining = remaining;
    } ∷ cursors
    else c ∷ with_remaining id number remaining cursors

-- a number that the router never used before, in any life, and that is not 0
abbrev pub IsNewNumber : RequestId → ℤ → List Cursor → Type 0
IsNewNumber id number cursors =
    ((n : ℕ) × (0 < n) × (number ≡ pos n)) × AllByRecursion (λ (c : Cursor). ((c.router == id.router) && int_eq c.number number) ≡ false) cursors

-- The number that is returned for documents that are not in the first batch: 0 where there are none, or where the request asks for no other batch; else the
-- number of a new cursor.
pub data Opens (id : RequestId) (single : Bool) (namespace : List ℕ) (time : ℕ) (cursors : List Cursor) : (rest : List Fields) → (number : ℤ)
    → (next : List Cursor) → Type 0 where
  opens_none : (rest : List Fields) → (rest ≡ []) ⊎ (single ≡ true) → Opens id single namespace time cursors rest (pos 0) cursors
  opens_one : (rest : List Fields) (number : ℤ) → rest ≢ [] → single ≡ false → IsNewNumber id number cursors
      → Opens id single namespace time cursors rest number (cursors ++ record {
        router = id.router;
        life = id.life;
        number = number;
        namespace = namespace;
        time = time;
        remaining = rest;
      } ∷ [])

-- the first batch of documents, of at most this size
pub record ShowsFirst (id : RequestId) (size : ℕ) (single : Bool) (cursors : List Cursor) (documents : List Fields) (batch : Batch)
    (next : List Cursor) : Type 0 where
  pub batch_of : IsBatch (Some size) documents batch.documents
  pub opens : Opens id single batch.namespace batch.time cursors (drop (length batch.documents) documents) batch.cursor next

-- the number that is returned for an open cursor, 0 where no document remains
abbrev pub number_left : ℤ → List Fields → ℤ
number_left number [] = pos 0
number_left number (document ∷ documents) = number

-- the next batch of an open cursor
pub record ShowsNext (id : RequestId) (size : Option ℕ) (cursors : List Cursor) (c : Cursor) (batch : Batch) (next : List Cursor) : Type 0 where
  pub batch_of : IsBatch size c.remaining batch.documents
  pub number : batch.cursor ≡ number_left c.number (drop (length batch.documents) c.remaining)
  pub name : batch.namespace ≡ c.namespace
  pub time : batch.time ≡ c.time
  pub rest : next ≡ with_remaining id c.number (drop (length batch.documents) c.remaining) cursors

-- Cursors are closed in order: those that are found, those that are not, and the cursors after it.
pub data Kills (id : RequestId) (namespace : List ℕ) : (cursors : List Cursor) → (numbers killed missing : List ℤ) → (next : List Cursor) → Type 0 where
  kills_none : (cursors : List Cursor) → Kills id namespace cursors [] [] [] cursors
  kills : (cursors next : List Cursor) (number : ℤ) (numbers killed missing : List ℤ) (c : Cursor) → open_cursor id number namespace cursors ≡ Some c
      → Kills id namespace (with_remaining id number [] cursors) numbers killed missing next
      → Kills id namespace cursors (number ∷ numbers) (number ∷ killed) missing next
  misses : (cursors next : List Cursor) (number : ℤ) (numbers killed missing : List ℤ) → open_cursor id number namespace cursors ≡ None
      → Kills id namespace cursors numbers killed missing next
      → Kills id namespace cursors (number ∷ numbers) killed (number ∷ missing) next
