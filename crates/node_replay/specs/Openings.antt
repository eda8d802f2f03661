-- What a node holds after it is opened on its journal (docs/JOURNAL.md, "The program's journals").
use Rattle.std.specs.Prelude.{ℕ, ◌*◌, List, [], false, Option, Some}
use Rattle.std.specs.Option.{option_map}
use Rattle.node_model.specs.Journal.{Kept}
use Rattle.node_model.specs.RouterRows.{block_size}
use Rattle.node_model.specs.States.{NodeState, catalogue_state, shard_state, router_state}
use Rattle.node_replay.specs.Durable.{DurableState, durable_catalogue, durable_shard, durable_router, empty_of}
use Rattle.node_replay.specs.Replays.{replayed, records_of, latest_time}

-- A catalogue has its changes, and so its tables; a shard its tables and entries, and so its documents and what it noted of statements,
-- and no request that waits. Both are at this time. A router has the life that it will begin, no time, table, request or cursor, and
-- takes its next cursor number from the next block. A shard's ceiling is the greatest time of its ceilings and entries, whichever that was:
-- this is what it compares the times of reads with.
abbrev pub opened : (time : ℕ) → DurableState → NodeState
opened time (durable_catalogue d) = catalogue_state (record { me = d.me; time = time; changes = d.changes })
opened time (durable_shard d) = shard_state (record { me = d.me; time = time; tables = d.tables; entries = d.entries; ceiling = d.top; parked = [] })
opened time (durable_router d) = router_state (record {
  me = d.me;
  shards = d.shards;
  time = 0;
  life = d.life;
  begun = false;
  moment = 0;
  count = 0;
  tables = [];
  requests = [];
  cursors = [];
  blocks = d.blocks;
  gave = block_size * d.blocks;
})

-- a node of the kind and the number of this one, opened on what it kept, if its records replay: its time is the greatest in its records
abbrev pub opened_on : NodeState → List Kept → Option NodeState
opened_on s kept = option_map (opened (latest_time (records_of kept))) (replayed (Some (empty_of s)) (records_of kept))
