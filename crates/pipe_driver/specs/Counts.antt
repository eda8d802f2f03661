-- Counts of faults, by what a call answered.
use Rattle.std.specs.Prelude.{◌≡◌, ℕ, List}
use Rattle.outside.specs.Causes.{Rose}
use Rattle.driver_steps.specs.Seats.{HaveRisen}

-- the count rose where this holds, and elsewhere it is as before
abbrev pub RoseWhere : Type 0 → (before after : ℕ) → Type 0
RoseWhere failed before after = (failed → Rose before after) × (¬ failed → after ≡ before)

-- one of the counts rose where this holds, and none fell; elsewhere all are as before
abbrev pub HaveRisenWhere : Type 0 → (before after : List ℕ) → Type 0
HaveRisenWhere failed before after = (failed → HaveRisen before after) × (¬ failed → after ≡ before)
