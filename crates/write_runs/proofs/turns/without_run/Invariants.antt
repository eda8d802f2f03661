use Rattle.std.proofs.Common.{◌≡◌, ◌++◌, drop}
use Rattle.node_model.specs.RouterNext.{without_run}
use Rattle.write_runs.specs.Runs.{runs_view}
use Rattle.write_runs.proofs.turns.without_run.Given as goal

abbrev pub invariant-loop-run : goal.invariant-loop-run
invariant-loop-run l = runs_view l.list.items ++ without_run l.first (runs_view (drop l.run-index l.runs)) ≡ without_run l.first (runs_view l.runs)
