use Rattle.std.proofs.Common.{◌-◌, ◌≤◌, length}
use Rattle.router_writes.specs.Places.{first_open}
use Rattle.write_runs.specs.Runs.{answers_view}
use Rattle.router_writes.proofs.noted.first_from.Given as goal

abbrev pub decreases-places : goal.decreases-places
decreases-places l = length l.answers - l.first

abbrev pub invariant-places : goal.invariant-places
invariant-places l = l.first ≤ first_open (answers_view l.answers)
