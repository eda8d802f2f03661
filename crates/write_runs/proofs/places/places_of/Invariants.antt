use Rattle.std.proofs.Common.{◌≡◌, ◌++◌, Option, drop, map}
use Rattle.std.specs.Prelude.{filter}
use Rattle.base_model.specs.Identities.{RequestId}
use Rattle.command_model.specs.Writes.{ClientNumber}
use Rattle.protocol_model.specs.Statements.{statement_view}
use Rattle.write_runs.specs.Marks.{is_new}
use Rattle.write_runs.specs.Places.{all_placed, place_view}
use Rattle.write_runs.specs.Runs.{all_tries_view, answers_view, runs_view}
use Rattle.write_runs.proofs.places.places_of.Given as goal

abbrev pub invariant-loop-statement : goal.invariant-loop-statement
invariant-loop-statement l = (given : Option ClientNumber) (id : RequestId) →
    map place_view l.places.items
    ++ all_placed l.table (all_tries_view l.tries)
    (filter (is_new (answers_view l.answers) (runs_view l.runs)) (map (λ s. statement_view given id s) (drop l.statement-index l.statements)))
    ≡ all_placed l.table (all_tries_view l.tries) (filter (is_new (answers_view l.answers) (runs_view l.runs)) (map (λ s. statement_view given id s) l.statements))
