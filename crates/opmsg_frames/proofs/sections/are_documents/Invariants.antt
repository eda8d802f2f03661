use Rattle.std.proofs.Common.{ℕ, ◌≤◌, length}
use Rattle.opmsg_frames.proofs.StatedDocuments.{AsBefore}
use Rattle.opmsg_frames.proofs.sections.are_documents.Given as goal

abbrev pub invariant-loop-rest : goal.invariant-loop-rest
invariant-loop-rest l = (n : ℕ) → length l.bytes ≤ n → (m : ℕ) × AsBefore l.rest l.bytes n m

abbrev pub decreases-loop-rest : goal.decreases-loop-rest
decreases-loop-rest l = length l.rest
