use Rattle.std.proofs.Common.{sym, ◌∙◌, map}
use Rattle.protocol_model.specs.Statements.{statement_view}
use Rattle.write_runs.proofs.Sends.{any_runs, next_runs}
use Rattle.write_runs.specs.Runs.{all_tries_view, answers_view}
use Rattle.write_runs.proofs.sending.runs_by.Goals as goal

pub returns-then-not-ordered : goal.returns-then-not-ordered
returns-then-not-ordered c = λ given id.
    any_runs c.args.table.now (map (λ s. statement_view given id s) c.args.statements.now) (answers_view c.args.answers.now) (all_tries_view c.args.tries.now) c.args.ordered _ _
    c.if-not-ordered.true (c.in_ok-more.ensures given id)

pub returns : goal.returns
returns c = λ given id.
    next_runs c.args.table.now (map (λ s. statement_view given id s) c.args.statements.now) (answers_view c.args.answers.now) (all_tries_view c.args.tries.now) c.args.ordered
    c.args.runs.now _ c.if-not-ordered.false (sym c.is_empty.ensures ∙ c.if-not-is_empty.false) (c.in_ok-next.ensures given id)
