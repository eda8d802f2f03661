use Rattle.std.proofs.Common.{sym, ◌∙◌}
use Rattle.write_runs.proofs.Nexts.{index_left, index_taken}
use Rattle.write_runs.specs.Marks.{is_new}
use Rattle.write_runs.specs.Runs.{answers_view, runs_view}
use Rattle.write_runs.proofs.unsent.new_indices.Goals as goal
use Rattle.write_runs.proofs.unsent.new_indices.Goals.{then-is_new+in_ok-push, else-is_new}

pub loop-statement-preserved : goal.loop-statement-preserved
loop-statement-preserved c = λ given id.
    elim c.if-is_new.branch [
      | then-is_new+in_ok-push w ↦
          rw w.indices-is (index_taken given id c.args.statements.now c.loop-statement.statement-index c.statement-item.result c.loop-statement-test.true c.statement-item.is
          (is_new (answers_view c.args.answers.now) (runs_view c.args.runs.now)) c.loop-statement.indices.items _ w.push.new.self.items
          w.in_ok-push.ensures.items (sym (c.is_new.ensures given id) ∙ w.if-is_new.true) (c.loop-statement.invariant given id))
      | else-is_new w ↦
          rw w.indices-is (index_left given id c.args.statements.now c.loop-statement.statement-index c.statement-item.result c.loop-statement-test.true c.statement-item.is
          (is_new (answers_view c.args.answers.now) (runs_view c.args.runs.now)) c.loop-statement.indices.items _
          (sym (c.is_new.ensures given id) ∙ w.if-is_new.false) (c.loop-statement.invariant given id))
    ]
