-- The bytes that were compared are the same.
use Rattle.std.proofs.Common.{ℕ, ◌<◌, ◌≡◌, slice_index}
use Rattle.session_book.proofs.book.same_id.Given as goal

abbrev pub invariant-loop-i : goal.invariant-loop-i
invariant-loop-i l = (k : ℕ) → k < l.i → slice_index l.id k ≡ slice_index l.other k
