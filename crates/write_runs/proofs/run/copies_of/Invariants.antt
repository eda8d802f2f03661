use Rattle.std.proofs.Common.{◌≡◌, ◌++◌, drop}
use Rattle.write_runs.specs.Runs.{runs_view}
use Rattle.write_runs.proofs.run.copies_of.Given as goal

abbrev pub invariant-loop-run : goal.invariant-loop-run
invariant-loop-run l = runs_view l.list.items ++ runs_view (drop l.run-index l.runs) ≡ runs_view l.runs
