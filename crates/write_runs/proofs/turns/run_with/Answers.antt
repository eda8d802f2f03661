use Rattle.std.proofs.Common.{sym, ◌∙◌}
use Rattle.write_runs.proofs.Turned.{run_found, run_other}
use Rattle.write_runs.specs.Runs.{course_view}
use Rattle.write_runs.proofs.turns.run_with.Goals as goal

pub returns-then-is_about : goal.returns-then-is_about
returns-then-is_about c = λ answers.
    run_found c.args.runs.now c.loop-run.run-index c.run-item.result c.loop-run-test.true c.run-item.is c.args.turn c.args.first
    (course_view answers c.args.tries.now c.args.runs.now) _ (sym c.is_about.ensures ∙ c.if-is_about.true) (c.loop-run.invariant answers)

pub loop-run-preserved : goal.loop-run-preserved
loop-run-preserved c = λ answers.
    run_other c.args.runs.now c.loop-run.run-index c.run-item.result c.loop-run-test.true c.run-item.is c.args.turn c.args.first
    (course_view answers c.args.tries.now c.args.runs.now) _ (sym c.is_about.ensures ∙ c.if-is_about.false) (c.loop-run.invariant answers)
