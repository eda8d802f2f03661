-- The names that are left get fewer.
use Rattle.std.proofs.Common.{length}
use Rattle.update_ops.proofs.puts.+take_below.Given as goal

abbrev pub decreases-take_below : goal.decreases-take_below
decreases-take_below l = length l.others.now
