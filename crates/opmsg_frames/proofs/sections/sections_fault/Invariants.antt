use Rattle.std.proofs.Common.{ℕ, ◌+◌, ◌<◌, ◌≤◌, length}
use Rattle.opmsg_frames.proofs.SectionWalk.{AsBefore}
use Rattle.opmsg_frames.proofs.sections.sections_fault.Given as goal

abbrev pub invariant-sections : goal.invariant-sections
invariant-sections l = record {
  room : l.bodies + length l.rest ≤ length l.bytes;
  same : (n : ℕ) → length l.bytes < n → (m : ℕ) × AsBefore l.bodies l.bad l.rest l.bytes n m;
}

abbrev pub decreases-sections : goal.decreases-sections
decreases-sections l = length l.rest
