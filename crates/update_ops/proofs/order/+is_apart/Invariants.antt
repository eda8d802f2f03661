-- The names that are left get fewer.
use Rattle.std.proofs.Common.{length}
use Rattle.update_ops.proofs.order.+is_apart.Given as goal

abbrev pub decreases-is_apart : goal.decreases-is_apart
decreases-is_apart l = length l.a.now
