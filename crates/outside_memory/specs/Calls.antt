-- What the calls of a disk in memory make of its bytes, and what a crash may leave after them.
use Rattle.std.specs.Prelude.{◌≡◌, ℕ, List, [], ◌∷◌, length, take}
use Rattle.outside.specs.Disks.{Outcomes, Torn, Cut, After}
use Rattle.outside_memory.specs.Memory.{DiskState, written}
use Rattle.outside_memory.specs.declared.call.Call.{Call}
use Rattle.outside_memory.specs.declared.call.Call.TheVariants.{Write, Cut as CutTo, Sync}

-- the bytes after these calls
abbrev pub replayed : List ℕ → List Call → List ℕ
replayed bytes [] = bytes
replayed bytes (Write at piece ∷ calls) = replayed (written bytes at piece) calls
replayed bytes (CutTo len ∷ calls) = replayed (take len bytes) calls
replayed bytes (Sync ∷ calls) = replayed bytes calls

-- What a crash may leave after these calls on these bytes, where it might have left this before them. After a sync it
-- leaves the bytes as they are.
abbrev pub left_by : Outcomes → List ℕ → List Call → Outcomes
left_by before bytes [] = before
left_by before bytes (Write at piece ∷ calls) =
    left_by (After (Torn at (length piece)) before) (written bytes at piece) calls
left_by before bytes (CutTo len ∷ calls) = left_by (After (Cut len) before) (take len bytes) calls
left_by before bytes (Sync ∷ calls) = left_by (λ c. c ≡ bytes) bytes calls

-- what a crash may leave after these calls on a file that was this, and stayed
abbrev pub left_after : List ℕ → List Call → Outcomes
left_after start calls = left_by (λ c. c ≡ start) start calls

-- what a crash may leave of a disk
abbrev pub crash_leaves : DiskState → Outcomes
crash_leaves d = left_after d.start d.calls

-- what a crash may have left of it at the moment t, which is a number of calls
abbrev pub crash_left_at : DiskState → ℕ → Outcomes
crash_left_at d t = left_after d.start (take t d.calls)
