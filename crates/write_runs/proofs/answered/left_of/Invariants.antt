use Rattle.std.proofs.Common.{◌≡◌, ◌++◌, drop}
use Rattle.node_model.specs.RouterNext.{left_of}
use Rattle.write_runs.specs.Runs.{answers_view, runs_view}
use Rattle.write_runs.proofs.answered.left_of.Given as goal

abbrev pub invariant-loop-run : goal.invariant-loop-run
invariant-loop-run l =
    runs_view l.left.items ++ left_of (answers_view l.answers) (runs_view (drop l.run-index l.runs)) ≡ left_of (answers_view l.answers) (runs_view l.runs)
