-- The two laws of the moments of a disk in memory.
use Rattle.std.specs.Prelude.{ℕ, List, length}
use Rattle.std.proofs.Common.{sym, subst, arith}
use Rattle.std.proofs.lemmas.List.{take_all}
use Rattle.outside_memory.specs.Memory.{DiskState}
use Rattle.outside_memory.specs.Calls.{left_after, crash_leaves, crash_left_at}

-- at this moment a crash leaves what it may leave now
pub now_counts : (d : DiskState) (c : List ℕ) → crash_leaves d c → crash_left_at d (length d.calls) c
now_counts d c now = subst (λ calls. left_after d.start calls c) (sym (take_all (length d.calls) d.calls (omega arith))) now

-- and nothing else
pub now_only : (d : DiskState) (c : List ℕ) → crash_left_at d (length d.calls) c → crash_leaves d c
now_only d c left = subst (λ calls. left_after d.start calls c) (take_all (length d.calls) d.calls (omega arith)) left
