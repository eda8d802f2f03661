use Rattle.std.proofs.Common.{sym, ◌∙◌}
use Rattle.write_runs.proofs.Nexts.{in_run_left, in_run_taken}
use Rattle.write_runs.specs.Runs.{run_view}
use Rattle.write_runs.proofs.unsent.in_run.Goals as goal
use Rattle.write_runs.proofs.unsent.in_run.Goals.{then-is_in_run+in_ok-copy+in_ok-push, else-is_in_run}

pub loop-statement-preserved : goal.loop-statement-preserved
loop-statement-preserved c = λ given id.
    elim c.if-is_in_run.branch [
      | then-is_in_run+in_ok-copy+in_ok-push w ↦
          rw w.list-is (in_run_taken given id c.args.statements.now c.loop-statement.statement-index c.statement-item.result c.loop-statement-test.true c.statement-item.is
          (run_view c.args.run.now) c.loop-statement.list.items w.push.new.self.items _ _ w.in_ok-push.ensures.items
          (sym c.is_in_run.ensures ∙ w.if-is_in_run.true) (w.in_ok-copy.ensures given id) (c.loop-statement.invariant given id))
      | else-is_in_run w ↦
          rw w.list-is (in_run_left given id c.args.statements.now c.loop-statement.statement-index c.statement-item.result c.loop-statement-test.true c.statement-item.is
          (run_view c.args.run.now) c.loop-statement.list.items _ (sym c.is_in_run.ensures ∙ w.if-is_in_run.false) (c.loop-statement.invariant given id))
    ]
