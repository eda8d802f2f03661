-- What the recipient of a moving range does with a batch (own).
use Rattle.std.specs.Prelude.{ℕ, ◌+◌, List, [], ◌∷◌, Option, ◌&&◌, ◌==◌, nat_le, if◌then◌else◌}
use Rattle.bson_model.specs.Tree.{Datum, Fields}
use Rattle.value_model.specs.Order.{same_value}
use Rattle.record_model.specs.Moves.{MovedDocument}

-- how the number of a batch fits, after the last number that was applied, which is 0 before the first
pub data Fit : Type 0 where
  -- it is the next
  next_fit : Fit
  -- it was applied before
  known_fit : Fit
  strange_fit : Fit

abbrev pub fit_of : (applied number : ℕ) → Fit
fit_of applied number =
    if number == applied + 1 then next_fit else if nat_le 1 number && nat_le number applied then known_fit else strange_fit

-- what the key has once the members are applied, each its document, or none; of two members with one key the later counts
abbrev pub overlay : List MovedDocument → Datum → Option Fields → Option Fields
overlay [] key before = before
overlay (m ∷ ms) key before = overlay ms key (if same_value m.key key then m.document else before)
