use Rattle.std.proofs.Common.{sym, ◌∙◌}
use Rattle.write_runs.proofs.Nexts.{run_ends, run_goes, run_passes}
use Rattle.write_runs.specs.Runs.{all_tries_view, answers_view}
use Rattle.write_runs.proofs.sending.run_to.Goals as goal
use Rattle.write_runs.proofs.sending.run_to.Goals.{then-not-has_outcome+in_ok-goes_to+else-not-branch+in_ok-push, else-not-has_outcome}

pub returns-then-not-branch : goal.returns-then-not-branch
returns-then-not-branch c = λ given id.
    run_ends given id c.args.statements.now c.loop-statement.statement-index c.statement-item.result c.loop-statement-test.true c.statement-item.is
    (answers_view c.args.answers.now) c.args.table.now (all_tries_view c.args.tries.now) c.args.shard.0 c.loop-statement.indices.items _
    (c.in_ok-goes_to.ensures given id ∙ c.if-not-branch.true) (sym c.if-not-has_outcome.true ∙ c.has_outcome.ensures) (c.loop-statement.invariant given id)

pub loop-statement-preserved : goal.loop-statement-preserved
loop-statement-preserved c = λ given id.
    elim c.if-not-has_outcome.branch [
      | then-not-has_outcome+in_ok-goes_to+else-not-branch+in_ok-push w ↦
          rw w.indices-is (run_goes given id c.args.statements.now c.loop-statement.statement-index c.statement-item.result c.loop-statement-test.true c.statement-item.is
          (answers_view c.args.answers.now) c.args.table.now (all_tries_view c.args.tries.now) c.args.shard.0 c.loop-statement.indices.items _ w.push.new.self.items w.in_ok-push.ensures.items
          (w.in_ok-goes_to.ensures given id ∙ w.if-not-branch.false) (sym w.if-not-has_outcome.true ∙ c.has_outcome.ensures) (c.loop-statement.invariant given id))
      | else-not-has_outcome w ↦
          rw w.indices-is (run_passes given id c.args.statements.now c.loop-statement.statement-index c.statement-item.result c.loop-statement-test.true c.statement-item.is
          (answers_view c.args.answers.now) c.args.table.now (all_tries_view c.args.tries.now) c.args.shard.0 c.loop-statement.indices.items _
          (sym w.if-not-has_outcome.false ∙ c.has_outcome.ensures) (c.loop-statement.invariant given id))
    ]
