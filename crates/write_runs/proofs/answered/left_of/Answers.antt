use Rattle.node_model.specs.RouterNext.{left_of}
use Rattle.write_runs.proofs.Lefts.{left_both}
use Rattle.write_runs.proofs.Steps.{goes_on}
use Rattle.write_runs.specs.Runs.{answers_view, run_view, runs_view}
use Rattle.write_runs.proofs.answered.left_of.Goals as goal

pub loop-run-preserved : goal.loop-run-preserved
loop-run-preserved c =
    goes_on (λ runs. left_of (answers_view c.args.answers.now) (runs_view runs)) (λ run runs. left_both (answers_view c.args.answers.now) (run_view run) (runs_view runs))
    c.args.runs.now c.loop-run.run-index c.run-item.result c.loop-run-test.true c.run-item.is (runs_view c.loop-run.left.items) (runs_view c.add_left.new.list.items) _
    c.in_ok-add_left.ensures c.loop-run.invariant
