-- The names that are left get fewer.
use Rattle.std.proofs.Common.{◌+◌, ◌*◌, length}
use Rattle.update_ops.proofs.puts.+put.Given as goal

abbrev pub decreases-put_below : goal.decreases-put_below
decreases-put_below l = 2 * length l.others.now

abbrev pub decreases-put_inside : goal.decreases-put_inside
decreases-put_inside l = 2 * length l.others.now + 1
