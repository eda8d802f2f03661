-- What the bytes from a gate on begin with.
use Rattle.std.specs.Prelude.{◌≡◌, ◌⊎◌, ℕ, ◌<◌, ◌^◌, List, [], ◌∷◌, ◌++◌, length}
use Rattle.journal_frames.specs.Files.{BeginsRecord, IsDamaged, IsShut, body}
use Rattle.journal_frames.specs.declared.records.Next.{Next}
use Rattle.journal_frames.specs.declared.records.ScanFault.{ScanFault}
use Rattle.journal_frames.specs.declared.records.ScanFault.TheVariants as faults
use Rattle.journal_frames.specs.declared.records.Next.TheVariants.{Shut, Whole, Damage}

-- an open gate with no record after it
pub record IsBroken (file : List ℕ) : Type 0 where
  pub gate : ℕ
  pub rest : List ℕ
  pub split : file ≡ gate ∷ rest
  pub open_gate : ¬ IsShut (gate ∷ rest)
  pub no_record : ¬ BeginsRecord rest

-- a record, and the bytes from the next gate on
pub record IsBody (rest bytes behind : List ℕ) : Type 0 where
  pub fits : length bytes < 2 ^ 64
  pub split : rest ≡ body bytes ++ behind
  pub more : 0 < length behind

abbrev pub IsNext : List ℕ → Next → Type 0
IsNext file Shut = IsShut file ⊎ (file ≡ [])
IsNext file (Whole bytes behind) = (rest : List ℕ) × (file ≡ 1 ∷ rest) × IsBody rest bytes.now behind.now
IsNext file Damage = IsBroken file

abbrev pub IsScanFault : List ℕ → ScanFault → Type 0
IsScanFault file (faults.Damage offset) = IsDamaged file offset
IsScanFault file faults.Memory = Unit {0}
