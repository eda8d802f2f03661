-- Cursors that are closed, one after another.
use Rattle.std.specs.Prelude.{◌≡◌, ℕ, ℤ, List, [], ◌∷◌, ◌++◌, Option, None, if◌then◌else◌}
use Rattle.std.specs.BTreeSet.{BTreeSet, contains}
use Rattle.std.specs.List.{list_any}
use Rattle.std.specs.Ordering.{int_cmp, int_eq}
use Rattle.cursor_shelf.specs.Cursors.{OpenCursor}
use Rattle.reply_model.specs.Cursors.{Cursor, Kills}
use Rattle.base_model.specs.Identities.{RequestId}
use Rattle.router_cursors.specs.CursorLists.{closed_all}

-- the set has these numbers and no others
abbrev pub Has : BTreeSet ℤ → List ℤ → Type 0
Has closed numbers = (i : ℤ) → contains int_cmp closed i ≡ list_any (int_eq i) numbers

-- the shelf after the cursors of these numbers were closed
abbrev pub closed_look : List ℤ → (ℤ → Option OpenCursor) → ℤ → Option OpenCursor
closed_look [] look = look
closed_look (number ∷ numbers) look = closed_look numbers (λ i. if int_eq i number then None else look i)

-- a prefix of all numbers is sorted into closed and missing ones, and closing the others then closes all
abbrev pub CloseSoFar : RequestId → (namespace : List ℕ) → List Cursor → (numbers all killed missing : List ℤ) → Type 0
CloseSoFar id namespace cursors numbers all killed missing =
    (ks ms : List ℤ) (next : List Cursor) → Kills id namespace (closed_all id killed cursors) numbers ks ms next → Kills id namespace cursors all (killed ++ ks) (missing ++ ms) next
