-- What a journal replays to: its records are taken in one after another, from an empty journal on, if each may follow (docs/JOURNAL.md,
-- "Records": kinds and fields).
use Rattle.std.specs.Prelude.{ℕ, max, List, [], ◌∷◌, map, Option, Some, None}
use Rattle.std.specs.Option.{option_map}
use Rattle.chunk_model.specs.Tables.{Owned, Chunk, Table}
use Rattle.record_model.specs.Records.{Record, table_record, entry_record, ceiling_record, create_record, split_record, catalogue_ceiling_record}
use Rattle.node_model.specs.Journal.{Kept, record_kept}
use Rattle.node_replay.specs.Durable.{DurableState, durable_catalogue, durable_shard, durable_router}
use Rattle.node_replay.specs.Follow.{catalogue_follow, shard_follow, router_follow}

-- the durable part of a node after one record more, if the record may follow
abbrev pub follow : DurableState → Record → Option DurableState
follow (durable_catalogue d) r = option_map durable_catalogue (catalogue_follow d r)
follow (durable_shard d) r = option_map durable_shard (shard_follow d r)
follow (durable_router d) r = option_map durable_router (router_follow d r)

abbrev pub replayed : Option DurableState → List Record → Option DurableState
replayed None records = None
replayed (Some d) [] = Some d
replayed (Some d) (r ∷ records) = replayed (follow d r) records

-- the records that store what a node keeps
abbrev pub records_of : List Kept → List Record
records_of kept = map record_kept kept

-- TIMES

abbrev pub latest_owner : List Owned → ℕ
latest_owner [] = 0
latest_owner (o ∷ owners) = max o.since (latest_owner owners)

abbrev pub latest_of_chunks : List Chunk → ℕ
latest_of_chunks [] = 0
latest_of_chunks (c ∷ chunks) = max (latest_owner c.owners) (latest_of_chunks chunks)

-- the greatest time in a table: that from which on it has owners, or of one of these
abbrev pub latest_in_table : Table → ℕ
latest_in_table t = max t.oldest (latest_of_chunks t.chunks)

-- the greatest time in a record that may follow; a router's have none
abbrev pub time_in : Record → ℕ
time_in (table_record t) = latest_in_table t
time_in (entry_record w) = w.time
time_in (ceiling_record time) = time
time_in (create_record c) = c.at
time_in (split_record s) = s.at
time_in (catalogue_ceiling_record time) = time
time_in r = 0

-- the greatest time in records
abbrev pub latest_time : List Record → ℕ
latest_time [] = 0
latest_time (r ∷ records) = max (time_in r) (latest_time records)
