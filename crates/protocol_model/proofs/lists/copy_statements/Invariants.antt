use Rattle.std.proofs.Common.{◌≡◌, ◌++◌, Option, drop, map}
use Rattle.command_model.specs.Writes.{ClientNumber}
use Rattle.base_model.specs.Identities.{RequestId}
use Rattle.protocol_model.specs.Statements.{statement_view}
use Rattle.protocol_model.proofs.lists.copy_statements.Given as goal

abbrev pub invariant-loop-statement : goal.invariant-loop-statement
invariant-loop-statement l =
    (given : Option ClientNumber) (id : RequestId) → map (statement_view given id) l.list.items ++ map (statement_view given id) (drop l.statement-index l.statements) ≡ map (statement_view given id) l.statements
