-- Which record may be the next of a node's journal, and the durable part of the node after it: a record may follow where a step of the
-- node could have stored it. Every other record is refused (docs/JOURNAL.md, "Records").
use Rattle.std.specs.Prelude.{ℕ, ◌+◌, max, List, [], ◌∷◌, ◌++◌, Bool, true, false, ◌&&◌, ◌==◌, Option, Some, None, is_some, is_none, nat_lt, if◌then◌else◌}
use Rattle.bson_model.specs.Tree.{Datum}
use Rattle.chunk_model.specs.Catalogue.{Creation, Split}
use Rattle.chunk_model.specs.Changes.{Change, create_change, split_change, known_table, creations, can_split}
use Rattle.chunk_model.specs.Tables.{Table, table_of, with_table}
use Rattle.history_model.specs.History.{Entry}
use Rattle.record_model.specs.Records.{EntryWords, outcome_words, Record, table_record, entry_record, ceiling_record, create_record, split_record, catalogue_ceiling_record, life_record, block_record}
use Rattle.node_model.specs.Service.{seen_before, entry_for}
use Rattle.node_model.specs.ShardRows.{is_news}
use Rattle.node_replay.specs.SameData.{same_words}
use Rattle.node_replay.specs.Durable.{DurableCatalogue, DurableShard, DurableRouter}

-- THE CATALOGUE: kinds 20, 21, 25

abbrev pub with_change : DurableCatalogue → ℕ → Change → DurableCatalogue
with_change d at x = record { me = d.me; top = at; changes = x ∷ d.changes }

-- a collection is created where there is none of its name, as the next of that name, later than every time before (MongoDB manual,
-- "shardCollection"; epochs are own)
abbrev pub may_create : DurableCatalogue → Creation → Bool
may_create d c = nat_lt d.top c.at && (is_none (known_table c.namespace d.changes) && c.epoch == creations c.namespace d.changes + 1)

abbrev pub is_inside : Datum → Option Table → Bool
is_inside middle None = false
is_inside middle (Some t) = can_split middle t.chunks

-- a chunk is split at a key that it has and does not begin with, later than every time before (MongoDB manual, "Split Chunks in a
-- Sharded Cluster")
abbrev pub may_split : DurableCatalogue → Split → Bool
may_split d s = nat_lt d.top s.at && is_inside s.middle (known_table s.namespace d.changes)

-- a time that the catalogue returned may always follow
abbrev pub catalogue_follow : DurableCatalogue → Record → Option DurableCatalogue
catalogue_follow d (create_record c) = if may_create d c then Some (with_change d c.at (create_change c)) else None
catalogue_follow d (split_record s) = if may_split d s then Some (with_change d s.at (split_change s)) else None
catalogue_follow d (catalogue_ceiling_record time) = Some (record { me = d.me; top = max d.top time; changes = d.changes })
catalogue_follow d r = None

-- A SHARD: kinds 01, 02, 03

-- the entry that a record stores: the outcome is that of its operation on the documents that the entries before it leave
abbrev pub entry_from : DurableShard → EntryWords → Entry
entry_from d w = entry_for d.entries w.time d.me w.namespace (record { number = w.number; operation = w.operation })

-- An entry is later than every entry and ceiling before it. Its collection has a table; its number is new, and no greater
-- transaction of its session is stored (MongoDB manual, "Retryable Writes"); and it has the outcome of its operation.
abbrev pub may_enter : DurableShard → EntryWords → Bool
may_enter d w =
    nat_lt d.top w.time
    && (is_some (table_of w.namespace d.tables)
    && (is_none (seen_before w.number d.entries) && same_words (outcome_words (entry_from d w).outcome) w.outcome))

-- some collection has a table
abbrev pub has_table : List Table → Bool
has_table [] = false
has_table (t ∷ tables) = true

abbrev pub with_new_table : DurableShard → Table → DurableShard
with_new_table d t = record { me = d.me; top = d.top; tables = with_table t d.tables; entries = d.entries }

abbrev pub with_entry : DurableShard → Entry → DurableShard
with_entry d e = record { me = d.me; top = e.time; tables = d.tables; entries = d.entries ++ e ∷ [] }

-- a table is the first of its collection, or has seen more changes than the one before; a ceiling is later than every entry and
-- ceiling before it, and some collection has a table
abbrev pub shard_follow : DurableShard → Record → Option DurableShard
shard_follow d (table_record t) = if is_news t (table_of t.namespace d.tables) then Some (with_new_table d t) else None
shard_follow d (entry_record w) = if may_enter d w then Some (with_entry d (entry_from d w)) else None
shard_follow d (ceiling_record time) =
    if nat_lt d.top time && has_table d.tables then Some (record { me = d.me; top = time; tables = d.tables; entries = d.entries }) else None
shard_follow d r = None

-- A ROUTER: kinds 30, 31

-- a life is the next; a block is the next, and a life began before (docs/JOURNAL.md, "Records": lives count from 1, blocks from 0)
abbrev pub router_follow : DurableRouter → Record → Option DurableRouter
router_follow d (life_record n) = if n == d.life then Some (record { me = d.me; shards = d.shards; life = n + 1; blocks = d.blocks }) else None
router_follow d (block_record n) =
    if nat_lt 1 d.life && n == d.blocks then Some (record { me = d.me; shards = d.shards; life = d.life; blocks = n + 1 }) else None
router_follow d r = None
