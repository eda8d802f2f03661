-- What is left of the name has a dot where the whole has.
use Rattle.std.proofs.Common.{◌≡◌, drop}
use Rattle.update_ops.specs.Starts.{has_dot}
use Rattle.update_ops.proofs.filters.has_dot.Given as goal

abbrev pub invariant-loop-b : goal.invariant-loop-b
invariant-loop-b l = has_dot (drop l.b-index l.b-items) ≡ has_dot l.name
