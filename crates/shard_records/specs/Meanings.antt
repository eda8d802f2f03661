-- What a record of the program is.
use Rattle.std.specs.Prelude.{List, ℕ}
use Rattle.cluster_base.specs.declared.identity.Stmt.{Stmt}
use Rattle.cluster_base.specs.declared.time.Time.{Time}
use Rattle.value_compare.specs.declared.words.Reply.{Reply}
use Rattle.statement_views.specs.Views.{number_view, operation_view}
pub use Rattle.statement_views.specs.Views.{outcome_view}
use Rattle.history_model.specs.History.{Operation, insert_operation, update_operation, delete_operation}
use Rattle.record_model.specs.Records as records
use Rattle.chunk_model.specs.Catalogue.{Creation}
use Rattle.record_model.specs.Records.{EntryWords, table_record, entry_record, ceiling_record, floor_record, move_start_record, section_record, move_end_record, released_record, receive_start_record, batch_record, receive_done_record, receive_end_record, deletion_record, create_record, split_record, commit_record, resolve_record, purge_record, catalogue_ceiling_record, life_record, block_record}
use Rattle.shard_records.specs.MoveViews.{request_view, move_start_view, section_view, move_end_view, receive_start_view, received_view, receive_done_view, deletion_view, split_view, commit_view, resolve_view, purge_view}
use Rattle.shard_records.specs.declared.record.Record.{Record}
use Rattle.shard_records.specs.declared.record.Record.TheVariants.{Table, Entry, Ceiling, Floor, MoveStart, Section, MoveEnd, Released, ReceiveStart, Batch, ReceiveDone, ReceiveEnd, Deleted, Create, Split, Commit, Resolve, Purge, CatalogueCeiling, Life, Block}
use Rattle.shard_records.specs.declared.record.WordsRef.{WordsRef}
use Rattle.shard_records.specs.declared.record.WordsRef.TheVariants.{Insert as Lent_insert, Update as Lent_update, Delete as Lent_delete}

abbrev pub operation_lent : WordsRef → Operation
operation_lent (Lent_insert document) = insert_operation document.now
operation_lent (Lent_update filter change upsert) = update_operation filter.now change.now upsert
operation_lent (Lent_delete filter) = delete_operation filter.now

abbrev pub entry_view : Time → List ℕ → Stmt → Operation → Reply → EntryWords
entry_view time namespace statement operation reply = record {
  time = time.0;
  namespace = namespace;
  number = number_view statement;
  operation = operation;
  outcome = outcome_view reply;
}

abbrev pub record_view : Record → records.Record
record_view (Table table) = table_record table
record_view (Entry time namespace statement op reply) = entry_record (entry_view time namespace statement (operation_view op) reply)
record_view (Ceiling time) = ceiling_record time.0
record_view (Floor time) = floor_record time.0
record_view (MoveStart m) = move_start_record (move_start_view m)
record_view (Section s) = section_record (section_view s)
record_view (MoveEnd m) = move_end_record (move_end_view m)
record_view (Released id) = released_record (request_view id)
record_view (ReceiveStart m) = receive_start_record (receive_start_view m)
record_view (Batch b) = batch_record (received_view b)
record_view (ReceiveDone r) = receive_done_record (receive_done_view r)
record_view (ReceiveEnd m) = receive_end_record (move_end_view m)
record_view (Deleted d) = deletion_record (deletion_view d)
record_view (Create namespace epoch at) = create_record (record { namespace = namespace; epoch = epoch; at = at.0 })
record_view (Split s) = split_record (split_view s)
record_view (Commit c) = commit_record (commit_view c)
record_view (Resolve r) = resolve_record (resolve_view r)
record_view (Purge p) = purge_record (purge_view p)
record_view (CatalogueCeiling time) = catalogue_ceiling_record time.0
record_view (Life number) = life_record number
record_view (Block number) = block_record number
