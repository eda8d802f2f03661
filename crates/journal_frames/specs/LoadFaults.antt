-- Why a file was not read.
use Rattle.std.specs.Prelude.{◌≡◌, ℕ}
use Rattle.outside.specs.Causes.{Rose}
use Rattle.journal_frames.specs.declared.file.LoadFault.{LoadFault}
use Rattle.journal_frames.specs.declared.file.LoadFault.TheVariants.{Disk, Memory}

-- a fault of the disk comes only where its count rose, and `Memory` only where the count is unchanged
abbrev pub IsLoadFault : ℕ → ℕ → LoadFault → Type 0
IsLoadFault before after Disk = Rose before after
IsLoadFault before after Memory = after ≡ before
