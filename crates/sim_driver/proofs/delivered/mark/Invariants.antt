use Rattle.std.proofs.Common.{◌≡◌, ℕ, ◌+◌, ◌-◌, length}
use Rattle.sim_driver.specs.Scripts.{AreDelivered, marked}
use Rattle.sim_driver.proofs.delivered.mark.Given as goal

abbrev pub decreases-places : goal.decreases-places
decreases-places l = (l.place + 1) - length l.flags.items

abbrev pub invariant-places : goal.invariant-places
invariant-places l = record {
  same : marked l.place l.flags.items ≡ marked l.place l.fn.flags.items;
  kept : (before : ℕ) → AreDelivered before l.fn.flags.items → AreDelivered before l.flags.items;
}
