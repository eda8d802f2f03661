use Rattle.std.proofs.Common.{ap, sym, ◌∙◌, ◌++◌}
use Rattle.write_runs.proofs.Lefts.{is_served, not_served}
use Rattle.write_runs.specs.Runs.{answers_view, runs_view}
use Rattle.write_runs.proofs.answered.add_rest.Goals as goal

pub returns-then-not-is_served : goal.returns-then-not-is_served
returns-then-not-is_served c =
    not_served (answers_view c.args.answers.now) c.args.run.now c.deref.result.now _ c.deref.ensures.value (sym c.is_served.ensures ∙ c.if-not-is_served.true)

pub returns : goal.returns
returns c =
    c.in_ok-add_left.ensures
    ∙ ap (λ l. runs_view c.args.list.now.items ++ l)
    (is_served (answers_view c.args.answers.now) c.args.run.now c.deref.result.now c.deref.ensures.value (sym c.is_served.ensures ∙ c.if-not-is_served.false))
