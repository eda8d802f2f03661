use Rattle.std.proofs.Common.{◌-◌, length}
use Rattle.sim_driver.specs.Scripts.{AreDelivered}
use Rattle.sim_driver.proofs.delivered.first_of.Given as goal

abbrev pub decreases-places : goal.decreases-places
decreases-places l = length l.flags.items - l.place

abbrev pub invariant-places : goal.invariant-places
invariant-places l = AreDelivered l.place l.flags.items
