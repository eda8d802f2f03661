-- What a sink notes about disks.
use Rattle.std.specs.Prelude.{ℕ, List, [], ◌∷◌}

-- a disk as it was seen: where it is, and the moment of its clock
pub record Sight : Type 0 where
  pub place : List ℕ
  pub moment : ℕ

-- that of the first of these disks
abbrev pub sight_by : {D : Type 0} → (D → List ℕ) → (D → ℕ) → List (D × ℕ) → Sight
sight_by place moment [] = record { place = []; moment = 0 }
sight_by place moment (d ∷ more) = record { place = place d.0; moment = moment d.0 }

-- a disk: where it is, the moment of its clock, and how many bytes had been written to the sink by then
pub record Note : Type 0 where
  pub place : List ℕ
  pub moment : ℕ
  pub length : ℕ
