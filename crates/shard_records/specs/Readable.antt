-- Which records are read again as themselves.
use Rattle.std.specs.Prelude.{◌≡◌, true}
use Rattle.std.specs.List.{AllByRecursion}
use Rattle.std.specs.Str.{IsUtf8}
use Rattle.bson_model.specs.Limits.{IsWritable}
use Rattle.value_model.specs.Keys.{IsRange, Range, min_bound}
use Rattle.chunk_model.specs.Tables.{Chunk, Table}
use Rattle.chunk_table.specs.Whole.{IsWritableBound, IsWritableChunk, follow_from}
use Rattle.history_model.specs.Sessions.{are_in_order}
use Rattle.record_model.specs.RecordFormat.{IsSound, key_document}
use Rattle.record_model.specs.Records.{Record, table_record, entry_record, move_start_record, move_end_record, receive_start_record, batch_record, receive_done_record, receive_end_record, deletion_record, create_record, split_record, commit_record, resolve_record, purge_record}
use Rattle.shard_records.specs.Sizes.{IsWritableDone, IsWritableReceived, IsWritableRecord}

-- a chunk that can be written, of a range that is not empty
pub record IsHeldChunk (c : Chunk) : Type 0 where
  pub writable : IsWritableChunk c
  pub range : IsRange c.range

-- the chunks follow one another from below all keys to above them, each with an owner
pub record IsHeldTable (t : Table) : Type 0 where
  pub name : IsUtf8 t.namespace
  pub chunks : AllByRecursion IsHeldChunk t.chunks
  pub follow : follow_from min_bound t.chunks ≡ true

-- a range that is not empty, and that can be written
abbrev pub IsHeldRange : Range → Type 0
IsHeldRange r = IsWritableBound r.min × (IsWritableBound r.max × IsRange r)

-- A record that the program can hold: names are text, documents can be written, ranges are not empty, a table gives every key an owner,
-- and sessions are in order, each once.
abbrev pub IsHeld : Record → Type 0
IsHeld (table_record t) = IsHeldTable t
IsHeld (entry_record e) = IsUtf8 e.namespace × IsWritableRecord (entry_record e)
IsHeld (move_start_record m) = IsUtf8 m.namespace × IsHeldRange m.range
IsHeld (move_end_record m) = IsHeldTable m.table
IsHeld (receive_start_record m) = IsUtf8 m.namespace × (IsHeldRange m.range × IsHeldTable m.table)
IsHeld (batch_record b) = IsWritableReceived b
IsHeld (receive_done_record r) = IsWritableDone r × (are_in_order r.sessions ≡ true)
IsHeld (receive_end_record m) = IsHeldTable m.table
IsHeld (deletion_record d) = IsUtf8 d.namespace × IsHeldRange d.range
IsHeld (create_record c) = IsUtf8 c.namespace
IsHeld (split_record s) = IsUtf8 s.namespace × IsWritable (key_document s.middle)
IsHeld (commit_record c) = IsUtf8 c.namespace × IsHeldRange c.range
IsHeld (resolve_record r) = IsUtf8 r.namespace × IsHeldRange r.range
IsHeld (purge_record p) = IsUtf8 p.namespace
IsHeld other = Unit {0}

-- a record that is read again as itself: its bytes encode no other record, and the program can hold it
abbrev pub IsReadable : Record → Type 0
IsReadable r = IsSound r × IsHeld r
