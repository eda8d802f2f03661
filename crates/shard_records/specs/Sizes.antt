-- Which records are written: each document in them has at most 100 levels and 400,000,000 bytes, and one that moves at most 16,777,216.
use Rattle.std.specs.Prelude.{◌≤◌, ◌<◌, ◌^◌, length, Option, Some, None}
use Rattle.std.specs.List.{AllByRecursion}
use Rattle.bson_model.specs.Tree.{Datum, Fields, document_depth}
use Rattle.bson_model.specs.Spelling.{written}
use Rattle.history_model.specs.History.{Operation, insert_operation, update_operation, delete_operation}
use Rattle.value_model.specs.Keys.{Range}
use Rattle.history_model.specs.Sessions.{StatementRecord, SessionRecord}
use Rattle.chunk_table.specs.Whole.{IsWritableBound}
use Rattle.record_model.specs.Moves.{MovedDocument, ReceivedBatch, ReceiveDone}
use Rattle.record_model.specs.Records.{Record, entry_record, move_start_record, receive_start_record, batch_record, receive_done_record, deletion_record, split_record, commit_record, resolve_record}
use Rattle.record_model.specs.RecordFormat.{key_document}
use Rattle.bson_model.specs.Limits.{IsWritable, most_bytes_kept, most_depth_kept, most_bytes_written}

-- a document that a record may hold
abbrev pub FitsRecord : Fields → Type 0
FitsRecord document = (document_depth document ≤ most_depth_kept) × (length (written document) ≤ most_bytes_written)

abbrev pub IsWritableOperation : Operation → Type 0
IsWritableOperation (insert_operation document) = FitsRecord document
IsWritableOperation (update_operation filter change upsert) = FitsRecord filter × FitsRecord change
IsWritableOperation (delete_operation filter) = FitsRecord filter

abbrev pub IsWritableKey : Option Datum → Type 0
IsWritableKey None = Unit {0}
IsWritableKey (Some key) = IsWritable (key_document key)

abbrev pub IsWritableRange : Range → Type 0
IsWritableRange r = IsWritableBound r.min × IsWritableBound r.max

-- a document that a shard stores
abbrev pub IsStored : Fields → Type 0
IsStored document = (document_depth document ≤ most_depth_kept) × (length (written document) ≤ most_bytes_kept)

abbrev pub IsWritableOption : Option Fields → Type 0
IsWritableOption None = Unit {0}
IsWritableOption (Some document) = IsStored document

pub record IsWritableMoved (m : MovedDocument) : Type 0 where
  pub key : IsWritable (key_document m.key)
  pub document : IsWritableOption m.document

abbrev pub IsWritableStatement : StatementRecord → Type 0
IsWritableStatement s = IsWritableKey s.outcome.upserted

pub record IsWritableSession (s : SessionRecord) : Type 0 where
  pub count : length s.statements < 2 ^ 32
  pub statements : AllByRecursion IsWritableStatement s.statements

pub record IsWritableReceived (b : ReceivedBatch) : Type 0 where
  pub upto : IsWritableBound b.batch.upto
  pub count : length b.batch.docs < 2 ^ 32
  pub docs : AllByRecursion IsWritableMoved b.batch.docs

pub record IsWritableDone (r : ReceiveDone) : Type 0 where
  pub count : length r.sessions < 2 ^ 32
  pub sessions : AllByRecursion IsWritableSession r.sessions

abbrev pub IsWritableRecord : Record → Type 0
IsWritableRecord (entry_record e) = IsWritableOperation e.operation × IsWritableKey e.outcome.upserted
IsWritableRecord (move_start_record m) = IsWritableRange m.range
IsWritableRecord (receive_start_record m) = IsWritableRange m.range
IsWritableRecord (batch_record b) = IsWritableReceived b
IsWritableRecord (receive_done_record r) = IsWritableDone r
IsWritableRecord (deletion_record d) = IsWritableRange d.range
IsWritableRecord (split_record s) = IsWritable (key_document s.middle)
IsWritableRecord (commit_record c) = IsWritableRange c.range
IsWritableRecord (resolve_record r) = IsWritableRange r.range
-- numbers and names are, and a table is by its type
IsWritableRecord other = Unit {0}
