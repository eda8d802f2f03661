-- What was listed, and what is left, are all.
use Rattle.std.proofs.Common.{◌≡◌, ◌++◌, length}
use Rattle.update_ops.specs.View.{edits_of, entries_of}
use Rattle.update_ops.proofs.order.listed.Given as goal

abbrev pub invariant-entries : goal.invariant-entries
invariant-entries l = edits_of l.edits.items ++ entries_of l.left.entries ≡ entries_of l.fn.by_path.entries

abbrev pub decreases-entries : goal.decreases-entries
decreases-entries l = length l.left.entries
