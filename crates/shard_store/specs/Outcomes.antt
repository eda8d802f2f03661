-- Outcomes of statements, in the terms of the history and of a reply.
use Rattle.std.specs.Prelude.{ℕ, pos, Option, Some, None}
use Rattle.std.specs.Option.{option_map}
use Rattle.cluster_base.specs.declared.identity.RequestId.{RequestId}
use Rattle.cluster_base.specs.declared.identity.Session.TheVariants.{Client, Router}
use Rattle.cluster_base.specs.declared.identity.Stmt.{Stmt}
use Rattle.value_compare.specs.declared.words.Reply.{Reply}
use Rattle.node_model.specs.History as history
use Rattle.node_model.specs.Outcomes as answers
use Rattle.node_model.specs.Outcomes.{Done, is_older, was_done}
use Rattle.command_replies.specs.declared.answer.ClientNumber.{ClientNumber}
use Rattle.record_model.specs.Records.{code_of}
use Rattle.shard_store.specs.Faults.{error_view}
use Rattle.shard_store.specs.declared.outcome.EntryOutcome.{EntryOutcome}
use Rattle.shard_store.specs.declared.outcome.StatementOutcome.{StatementOutcome}
use Rattle.shard_store.specs.declared.outcome.StatementOutcome.TheVariants.{WasDone, Older}

abbrev pub outcome_view : EntryOutcome → history.Outcome
outcome_view o = record {
  count = o.reply.n;
  modified = o.reply.modified;
  upserted = o.reply.upserted;
  error = option_map
      error_view o.fault;
}

-- the reply with an outcome: its error by its number, or 0
abbrev pub reply_view : history.Outcome → Reply
reply_view o = record { n = o.count; modified = o.modified; upserted = o.upserted; code = code_of o.error }

abbrev pub answer_view : StatementOutcome → answers.StatementOutcome
answer_view (WasDone told) = was_done told.time.0 (outcome_view told.outcome)
answer_view (Older greatest) = is_older greatest

-- the statement with this index has that outcome
abbrev pub done_view : (index : ℕ) → StatementOutcome → Done
done_view index told = record { index = index; answer = answer_view told }

-- the statement with this index of a request, with the number that its client gave or the router's own
abbrev pub statement_of : Option ClientNumber → RequestId → ℕ → Stmt
statement_of None id index = record { session = Router id.router id.life id.count; txn = pos 0; index = index }
statement_of (Some number) id index = record { session = Client number.session; txn = number.transaction; index = index }
