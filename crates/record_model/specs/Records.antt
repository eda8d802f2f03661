-- What a node stores in its journal. The records are own; an entry's operands are those of the client (MongoDB manual, "insert",
-- "update" and "delete").
use Rattle.std.specs.Prelude.{ℕ, ℤ, pos, List, Option, Some, None}
use Rattle.base_model.specs.Errors.{ErrorCode}
use Rattle.history_model.specs.History.{StatementNumber, Operation, Outcome, Entry}
pub use Rattle.history_model.specs.Sessions.{OutcomeWords}
use Rattle.base_model.specs.Identities.{RequestId}
use Rattle.chunk_model.specs.Catalogue.{Creation, Split, Commit, Resolve, Purge}
use Rattle.chunk_model.specs.Tables.{Table}
use Rattle.record_model.specs.Moves.{MoveStart, Section, MoveEnd, ReceiveStart, ReceivedBatch, ReceiveDone, Deletion}

-- one write, without its shard, which is the journal's own
pub record EntryWords : Type 0 where
  pub time : ℕ
  pub namespace : List ℕ
  pub number : StatementNumber
  pub operation : Operation
  pub outcome : OutcomeWords

pub data Record : Type 0 where
  -- a shard's table of a collection, whole
  table_record : Table → Record
  entry_record : EntryWords → Record
  -- a shard was read at this time: its later entries are above it
  ceiling_record : ℕ → Record
  -- the history of a shard below this time is no longer kept
  floor_record : ℕ → Record
  move_start_record : MoveStart → Record
  section_record : Section → Record
  -- the donor's part in a move ends
  move_end_record : MoveEnd → Record
  -- the recipient knows that the donor's part in a move ended
  released_record : RequestId → Record
  receive_start_record : ReceiveStart → Record
  batch_record : ReceivedBatch → Record
  receive_done_record : ReceiveDone → Record
  -- the recipient's part in a move ends
  receive_end_record : MoveEnd → Record
  deletion_record : Deletion → Record
  create_record : Creation → Record
  split_record : Split → Record
  commit_record : Commit → Record
  resolve_record : Resolve → Record
  purge_record : Purge → Record
  -- the catalogue returned this time: its later changes are above it
  catalogue_ceiling_record : ℕ → Record
  -- a life of a router begins, with this number
  life_record : ℕ → Record
  -- a router takes a block of cursor numbers, with this number
  block_record : ℕ → Record

abbrev pub code_of : Option ErrorCode → ℤ
code_of None = pos 0
code_of (Some error) = pos error.number

abbrev pub outcome_words : Outcome → OutcomeWords
outcome_words o = record { count = o.count; modified = o.modified; upserted = o.upserted; code = code_of o.error }

-- the record of an entry
abbrev pub record_of : Entry → Record
record_of e = entry_record (record {
  time = e.time;
  namespace = e.namespace;
  number = e.number;
  operation = e.operation;
  outcome = outcome_words e.outcome;
})
