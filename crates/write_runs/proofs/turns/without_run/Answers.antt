use Rattle.node_model.specs.RouterNext.{without_run}
use Rattle.write_runs.proofs.Steps.{goes_on}
use Rattle.write_runs.proofs.Turned.{without_both}
use Rattle.write_runs.specs.Runs.{run_view, runs_view}
use Rattle.write_runs.proofs.turns.without_run.Goals as goal

pub loop-run-preserved : goal.loop-run-preserved
loop-run-preserved c =
    goes_on (λ runs. without_run c.args.first (runs_view runs)) (λ run runs. without_both c.args.first (run_view run) (runs_view runs))
    c.args.runs.now c.loop-run.run-index c.run-item.result c.loop-run-test.true c.run-item.is (runs_view c.loop-run.list.items) (runs_view c.add_other.new.list.items) _
    c.in_ok-add_other.ensures c.loop-run.invariant
