use Rattle.std.proofs.Common.{◌≡◌, ◌++◌, drop}
use Rattle.write_runs.specs.Runs.{all_tries_view}
use Rattle.write_runs.proofs.tries.copy_tries.Given as goal

abbrev pub invariant-loop-own : goal.invariant-loop-own
invariant-loop-own l = all_tries_view l.copy.items ++ all_tries_view (drop l.own-index l.tries) ≡ all_tries_view l.tries
