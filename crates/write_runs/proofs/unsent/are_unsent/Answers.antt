use Rattle.std.proofs.Common.{sym, ◌∙◌, map}
use Rattle.protocol_model.specs.Statements.{statement_view}
use Rattle.write_runs.proofs.News.{none_pass, some_pass, unsent_new, unsent_none}
use Rattle.write_runs.specs.Marks.{is_new}
use Rattle.write_runs.specs.Runs.{answers_view, runs_view}
use Rattle.write_runs.proofs.unsent.are_unsent.Goals as goal

pub returns-then-waits-clause-none : goal.returns-then-waits-clause-none
returns-then-waits-clause-none c = λ given id tries is.
    unsent_none (map (λ s. statement_view given id s) c.args.statements.now) (answers_view c.args.answers.now) tries c.args.ordered c.args.runs.now
    (sym c.waits.ensures ∙ c.if-waits.true)

pub returns-clause-none : goal.returns-clause-none
returns-clause-none c = λ given id tries is.
    unsent_new (map (λ s. statement_view given id s) c.args.statements.now) (answers_view c.args.answers.now) tries c.args.ordered c.args.runs.now
    (sym c.waits.ensures ∙ c.if-waits.false)
    ∙ none_pass (is_new (answers_view c.args.answers.now) (runs_view c.args.runs.now)) (map (λ s. statement_view given id s) c.args.statements.now)
    (sym (c.are_new.ensures given id) ∙ is)

pub returns-clause-some : goal.returns-clause-some
returns-clause-some c = λ given id tries is none.
    some_pass (is_new (answers_view c.args.answers.now) (runs_view c.args.runs.now)) (map (λ s. statement_view given id s) c.args.statements.now)
    (sym (c.are_new.ensures given id) ∙ is)
    (sym (unsent_new (map (λ s. statement_view given id s) c.args.statements.now) (answers_view c.args.answers.now) tries c.args.ordered c.args.runs.now
    (sym c.waits.ensures ∙ c.if-waits.false)) ∙ none)
