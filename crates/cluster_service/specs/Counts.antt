-- Counts of faults, of which one rises.
use Rattle.std.specs.Prelude.{◌≡◌, ℕ, List}
use Rattle.outside.specs.Devices.{OneRose}

-- one of the counts rose where this holds, and elsewhere all are as before
abbrev pub OneRoseWhere : Type 0 → (before after : List ℕ) → Type 0
OneRoseWhere failed before after = (failed → OneRose before after) × (¬ failed → after ≡ before)
