-- A record that the program can hold can be written.
use Rattle.std.proofs.Common.{◌≡◌, ◌<◌, ◌^◌, length, true}
use Rattle.std.specs.List.{AllByRecursion}
use Rattle.bson_model.specs.Limits.{IsWritable}
use Rattle.chunk_table.specs.Whole.{IsWritableBound}
use Rattle.history_model.specs.Sessions.{SessionRecord, are_in_order}
use Rattle.record_model.specs.Moves.{MovedDocument, ReceivedBatch, ReceiveDone}
use Rattle.record_model.specs.Records.{Record, entry_record, move_start_record, receive_start_record, batch_record, receive_done_record, deletion_record, split_record, commit_record, resolve_record}
use Rattle.record_model.specs.RecordFormat.{key_document}
use Rattle.shard_records.specs.Sizes.{IsWritableRecord, IsWritableOption, IsWritableMoved, IsWritableStatement, IsWritableSession, IsWritableReceived, IsWritableDone}
use Rattle.shard_records.specs.Readable.{IsHeld}

pub held_writable : (r : Record) → IsHeld r → IsWritableRecord r
held_writable (entry_record e) h = h.1
held_writable (move_start_record m) h = (h.1.0, h.1.1.0)
held_writable (receive_start_record m) h = (h.1.0.0, h.1.0.1.0)
held_writable (batch_record b) h = h
held_writable (receive_done_record r) h = h.0
held_writable (deletion_record d) h = (h.1.0, h.1.1.0)
held_writable (split_record s) h = h.1
held_writable (commit_record c) h = (h.1.0, h.1.1.0)
held_writable (resolve_record r) h = (h.1.0, h.1.1.0)
held_writable r h = tt

pub moved_held : (m : MovedDocument) → IsWritable (key_document m.key) → IsWritableOption m.document → IsWritableMoved m
moved_held m key document = record { key = key; document = document }

pub session_held : (s : SessionRecord) → length s.statements < 2 ^ 32 → AllByRecursion IsWritableStatement s.statements → IsWritableSession s
session_held s count statements = record { count = count; statements = statements }

pub received_held : (b : ReceivedBatch) → IsWritableBound b.batch.upto → length b.batch.docs < 2 ^ 32 → AllByRecursion IsWritableMoved b.batch.docs →
    IsWritableReceived b
received_held b upto count docs = record { upto = upto; count = count; docs = docs }

pub done_held : (r : ReceiveDone) → length r.sessions < 2 ^ 32 → AllByRecursion IsWritableSession r.sessions → are_in_order r.sessions ≡ true →
    IsWritableDone r × (are_in_order r.sessions ≡ true)
done_held r count sessions order = (record { count = count; sessions = sessions }, order)
