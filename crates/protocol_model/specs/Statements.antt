-- The program's statements and their outcomes, by the definitions.
use Rattle.std.specs.Arc.{arc_value}
use Rattle.std.specs.Prelude.{Option}
use Rattle.std.specs.Option.{option_map}
use Rattle.cluster_base.specs.Codes.{meaning_of}
use Rattle.base_model.specs.Identities.{RequestId}
use Rattle.reply_model.specs.Exchanges.{number_for}
use Rattle.history_model.specs.History as history
use Rattle.history_model.specs.History.{insert_operation}
use Rattle.node_model.specs.Letters as letters
use Rattle.command_model.specs.Writes.{ClientNumber}
use Rattle.command_replies.specs.Refusals.{refusal_view}
use Rattle.reply_model.specs.Outcomes as outcomes
use Rattle.reply_model.specs.Outcomes.{is_older, was_done, was_refused}
use Rattle.protocol_model.specs.declared.statement.Operation.{Operation}
use Rattle.protocol_model.specs.declared.statement.Operation.TheVariants.{Insert, Change}
use Rattle.protocol_model.specs.declared.statement.Statement.{Statement}
use Rattle.protocol_model.specs.declared.statement.Outcome.{Outcome}
use Rattle.protocol_model.specs.declared.statement.StatementOutcome.{StatementOutcome}
use Rattle.protocol_model.specs.declared.statement.StatementOutcome.TheVariants.{WasDone, Older, WasRefused}
use Rattle.protocol_model.specs.declared.statement.Done.{Done}

abbrev pub operation_view : Operation → history.Operation
operation_view (Insert document) = insert_operation document
operation_view (Change operation) = operation

-- a statement of a request, with the number from its client or the router's own
abbrev pub statement_view : Option ClientNumber → RequestId → Statement → letters.Statement
statement_view given id s = record { number = number_for given id s.index; operation = operation_view s.operation }

abbrev pub outcome_view : Outcome → history.Outcome
outcome_view o = record {
  count = o.count;
  modified = o.modified;
  upserted = option_map (λ key. arc_value key) o.upserted;
  error = option_map
      meaning_of o.error;
}

abbrev pub answer_view : StatementOutcome → outcomes.StatementOutcome
answer_view (WasDone time outcome) = was_done time.0 (outcome_view outcome)
answer_view (Older greatest) = is_older greatest
answer_view (WasRefused refusal) = was_refused (refusal_view (arc_value refusal))

abbrev pub done_view : Done → outcomes.Done
done_view d = record { index = d.index; answer = answer_view d.answer }
