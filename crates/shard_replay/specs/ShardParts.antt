-- What the journal of a shard says of it.
use Rattle.std.specs.Prelude.{◌≡◌, ℕ, Bool, true, false, Option, Some, None}
use Rattle.record_model.specs.Records.{EntryWords, Record, table_record, entry_record, ceiling_record}
use Rattle.node_replay.specs.Durable.{DurableShard}
use Rattle.node_replay.specs.Follow.{shard_follow}
use Rattle.shard_records.specs.Meanings.{entry_view}
use Rattle.statement_views.specs.Views.{operation_view}
use Rattle.shard_store.specs.Stores.{entries_of}
use Rattle.shard_replay.specs.declared.kind.EntryRecord.{EntryRecord}
use Rattle.shard_replay.specs.declared.kind.ShardRecord.{ShardRecord}
use Rattle.shard_replay.specs.declared.kind.ShardRecord.TheVariants as kinds
use Rattle.shard_replay.specs.declared.part.ShardPart.{ShardPart}

abbrev pub part_of : ShardPart → DurableShard
part_of p = record { me = p.me.0; top = p.top.0; tables = p.tables.tables; entries = entries_of p.store }

abbrev pub time_of : ShardPart → ℕ
time_of p = p.time.0

abbrev pub words_of : EntryRecord → EntryWords
words_of e = entry_view e.time e.namespace e.statement (operation_view e.op) e.reply

-- whether a record followed; where it did it led to this part, and the greatest time is this
abbrev pub Leads : Option DurableShard → (latest : ℕ) → DurableShard → (time : ℕ) → Bool → Type 0
Leads after latest part time true = (after ≡ Some part) × (time ≡ latest)
Leads after latest part time false = after ≡ None

-- what the record is, and that no record of another node may follow
abbrev pub IsKind : Record → ShardRecord → Type 0
IsKind r (kinds.Table t) = r ≡ table_record t
IsKind r (kinds.Entry e) = r ≡ entry_record (words_of e)
IsKind r (kinds.Ceiling time) = r ≡ ceiling_record time.0
IsKind r kinds.Other = (d : DurableShard) → shard_follow d r ≡ None
