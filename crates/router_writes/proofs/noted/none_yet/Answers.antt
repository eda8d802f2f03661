use Rattle.protocol_model.specs.Statements.{statement_view}
use Rattle.router_writes.proofs.Places.{none_whole}
use Rattle.router_writes.proofs.noted.none_yet.Goals as goal

pub returns : goal.returns
returns c = λ given id.
    none_whole (λ s. statement_view given id s) c.loop-statement.places.items c.loop-statement._statement-index c.args.statements.now c.loop-statement-test.false
    c.loop-statement.invariant
