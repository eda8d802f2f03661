-- What opening a journal returns.
use Rattle.std.specs.Prelude.{ℕ, List, Result, Ok, Err}
use Rattle.journal_frames.specs.Views.{JournalView}
use Rattle.journal_frames.specs.declared.journal.OpenFault.{OpenFault}
use Rattle.journal_frames.specs.declared.journal.OpenFault.TheVariants.{Disk, Damaged, Memory}

-- the disk that an opening kept or handed back
abbrev pub disk_left : {D : Type 0} → Result (JournalView D × List (List ℕ)) (OpenFault D) → D
disk_left (Ok found) = found.0.disk
disk_left (Err (Disk disk)) = disk
disk_left (Err (Damaged offset disk)) = disk
disk_left (Err (Memory disk)) = disk

-- where the disk failed
abbrev pub IfDiskFailed : {D : Type 0} → Result (JournalView D × List (List ℕ)) (OpenFault D) → Type 0 → Type 0
IfDiskFailed (Err (Disk disk)) failed = failed
IfDiskFailed result failed = Unit {0}

-- where the disk did not fail
abbrev pub UnlessDiskFailed : {D : Type 0} → Result (JournalView D × List (List ℕ)) (OpenFault D) → Type 0 → Type 0
UnlessDiskFailed (Err (Disk disk)) calm = Unit {0}
UnlessDiskFailed result calm = calm

-- where the file is damaged, at an offset
abbrev pub IfDamaged : {D : Type 0} → Result (JournalView D × List (List ℕ)) (OpenFault D) → (ℕ → Type 0) → Type 0
IfDamaged (Err (Damaged offset disk)) damaged = damaged offset
IfDamaged result damaged = Unit {0}
