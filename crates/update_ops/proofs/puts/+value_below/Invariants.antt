-- The names that are left get fewer.
use Rattle.std.proofs.Common.{length}
use Rattle.update_ops.proofs.puts.+value_below.Given as goal

abbrev pub decreases-value_below : goal.decreases-value_below
decreases-value_below l = length l.others.now
