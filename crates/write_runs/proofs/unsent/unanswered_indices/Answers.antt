use Rattle.std.proofs.Common.{ap, ◌∙◌, Bool}
use Rattle.std.specs.Prelude.{not}
use Rattle.node_model.specs.Letters.{Statement}
use Rattle.reply_model.specs.Outcomes.{has_outcome}
use Rattle.write_runs.proofs.Nexts.{index_left, index_taken, is_left}
use Rattle.write_runs.specs.Runs.{answers_view}
use Rattle.write_runs.proofs.unsent.unanswered_indices.Goals as goal
use Rattle.write_runs.proofs.unsent.unanswered_indices.Goals.{then-not-has_outcome+in_ok-push, else-not-has_outcome}

pub loop-statement-preserved : goal.loop-statement-preserved
loop-statement-preserved c = λ given id.
    let left = is_left given id c.args.statements.now c.loop-statement.statement-index c.statement-item.result c.loop-statement-test.true c.statement-item.is
    (answers_view c.args.answers.now) c.has_outcome.result c.has_outcome.ensures in
    elim c.if-not-has_outcome.branch [
      | then-not-has_outcome+in_ok-push w ↦
          rw w.indices-is (index_taken given id c.args.statements.now c.loop-statement.statement-index c.statement-item.result c.loop-statement-test.true c.statement-item.is
          (λ (s : Statement). not (has_outcome (answers_view c.args.answers.now) s.number.index)) c.loop-statement.indices.items _ w.push.new.self.items
          w.in_ok-push.ensures.items (left ∙ ap (λ (b : Bool). not b) w.if-not-has_outcome.true) (c.loop-statement.invariant given id))
      | else-not-has_outcome w ↦
          rw w.indices-is (index_left given id c.args.statements.now c.loop-statement.statement-index c.statement-item.result c.loop-statement-test.true c.statement-item.is
          (λ (s : Statement). not (has_outcome (answers_view c.args.answers.now) s.number.index)) c.loop-statement.indices.items _
          (left ∙ ap (λ (b : Bool). not b) w.if-not-has_outcome.false) (c.loop-statement.invariant given id))
    ]
