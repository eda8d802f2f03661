use Rattle.std.proofs.Common.{◌≡◌, ◌++◌, Option, drop, map}
use Rattle.base_model.specs.Identities.{RequestId}
use Rattle.command_model.specs.Writes.{ClientNumber}
use Rattle.node_model.specs.RouterRequests.{in_run}
use Rattle.protocol_model.specs.Statements.{statement_view}
use Rattle.write_runs.specs.Runs.{run_view}
use Rattle.write_runs.proofs.unsent.in_run.Given as goal

abbrev pub invariant-loop-statement : goal.invariant-loop-statement
invariant-loop-statement l = (given : Option ClientNumber) (id : RequestId) →
    map (λ s. statement_view given id s) l.list.items ++ in_run (run_view l.run) (map (λ s. statement_view given id s) (drop l.statement-index l.statements))
    ≡ in_run (run_view l.run) (map (λ s. statement_view given id s) l.statements)
