use Rattle.std.proofs.Common.{ap, sym, ◌∙◌, map}
use Rattle.node_model.specs.RouterRequests.{indices_of}
use Rattle.protocol_model.specs.Statements.{statement_view}
use Rattle.write_runs.proofs.News.{unsent_new, unsent_none}
use Rattle.write_runs.specs.Runs.{answers_view}
use Rattle.write_runs.proofs.unsent.unsent_indices.Goals as goal

pub returns-then-waits : goal.returns-then-waits
returns-then-waits c = λ given id tries.
    c.new.ensures.items
    ∙ sym (ap (λ l. indices_of l) (unsent_none (map (λ s. statement_view given id s) c.args.statements.now) (answers_view c.args.answers.now) tries c.args.ordered
    c.args.runs.now (sym c.waits.ensures ∙ c.if-waits.true)))

pub returns : goal.returns
returns c = λ given id tries.
    c.in_ok-indices.ensures given id
    ∙ sym (ap (λ l. indices_of l) (unsent_new (map (λ s. statement_view given id s) c.args.statements.now) (answers_view c.args.answers.now) tries c.args.ordered
    c.args.runs.now (sym c.waits.ensures ∙ c.if-waits.false)))
