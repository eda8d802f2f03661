use Rattle.node_model.specs.RouterNext.{left_of, served_in_part}
use Rattle.write_runs.proofs.Lefts.{served_both}
use Rattle.write_runs.proofs.Steps.{goes_on}
use Rattle.write_runs.specs.Runs.{answers_view, run_view, runs_view}
use Rattle.write_runs.proofs.answered.rest_of_served.Goals as goal

pub loop-run-preserved : goal.loop-run-preserved
loop-run-preserved c =
    goes_on (λ runs. left_of (answers_view c.args.answers.now) (served_in_part (answers_view c.args.answers.now) (runs_view runs)))
    (λ run runs. served_both (answers_view c.args.answers.now) (run_view run) (runs_view runs))
    c.args.runs.now c.loop-run.run-index c.run-item.result c.loop-run-test.true c.run-item.is (runs_view c.loop-run.rest.items) (runs_view c.add_rest.new.list.items) _
    c.in_ok-add_rest.ensures c.loop-run.invariant
