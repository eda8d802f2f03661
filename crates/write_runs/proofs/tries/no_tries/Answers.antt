use Rattle.protocol_model.specs.Statements.{statement_view}
use Rattle.write_runs.proofs.Trying.{no_tries_of_all}
use Rattle.write_runs.proofs.tries.no_tries.Goals as goal

pub returns : goal.returns
returns c = λ given id.
    no_tries_of_all (λ s. statement_view given id s) c.loop-statement.tries.items c.loop-statement._statement-index c.args.statements.now c.loop-statement-test.false
    c.loop-statement.invariant
