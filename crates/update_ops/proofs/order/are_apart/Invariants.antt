-- The edits that are left are apart where all are.
use Rattle.std.proofs.Common.{◌≡◌, length}
use Rattle.query_model.specs.Changes.{are_apart}
use Rattle.update_ops.specs.View.{edits_of}
use Rattle.update_ops.proofs.order.are_apart.Given as goal

abbrev pub invariant-edits : goal.invariant-edits
invariant-edits l = are_apart (edits_of l.rest) ≡ are_apart (edits_of l.edits)

abbrev pub decreases-edits : goal.decreases-edits
decreases-edits l = length l.rest
