use Rattle.std.proofs.Common.{◌≡◌, take}
use Rattle.group_steps.proofs.records.copies_of.Given as goal

abbrev pub invariant-loop-body : goal.invariant-loop-body
invariant-loop-body l = l.copies.items ≡ take l.body-index l.bodies
