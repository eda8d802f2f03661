use Rattle.std.proofs.Common.{◌≡◌, ◌++◌, Option, drop, map}
use Rattle.base_model.specs.Identities.{RequestId}
use Rattle.command_model.specs.Writes.{ClientNumber}
use Rattle.node_model.specs.RouterRequests.{indices_of, unanswered}
use Rattle.protocol_model.specs.Statements.{statement_view}
use Rattle.write_runs.specs.Runs.{answers_view}
use Rattle.write_runs.proofs.unsent.unanswered_indices.Given as goal

abbrev pub invariant-loop-statement : goal.invariant-loop-statement
invariant-loop-statement l = (given : Option ClientNumber) (id : RequestId) →
    l.indices.items ++ indices_of (unanswered (map (λ s. statement_view given id s) (drop l.statement-index l.statements)) (answers_view l.answers))
    ≡ indices_of (unanswered (map (λ s. statement_view given id s) l.statements) (answers_view l.answers))
