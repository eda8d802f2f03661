use Rattle.std.proofs.Common.{◌≡◌, ◌++◌, Option, drop, map}
use Rattle.std.specs.Prelude.{filter}
use Rattle.base_model.specs.Identities.{RequestId}
use Rattle.command_model.specs.Writes.{ClientNumber}
use Rattle.node_model.specs.RouterRequests.{indices_of}
use Rattle.protocol_model.specs.Statements.{statement_view}
use Rattle.write_runs.specs.Marks.{is_new}
use Rattle.write_runs.specs.Runs.{answers_view, runs_view}
use Rattle.write_runs.proofs.unsent.new_indices.Given as goal

abbrev pub invariant-loop-statement : goal.invariant-loop-statement
invariant-loop-statement l = (given : Option ClientNumber) (id : RequestId) →
    l.indices.items ++ indices_of (filter (is_new (answers_view l.answers) (runs_view l.runs)) (map (λ s. statement_view given id s) (drop l.statement-index l.statements)))
    ≡ indices_of (filter (is_new (answers_view l.answers) (runs_view l.runs)) (map (λ s. statement_view given id s) l.statements))
