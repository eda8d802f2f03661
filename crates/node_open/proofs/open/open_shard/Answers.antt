use Rattle.node_replay.specs.Durable.{empty_shard}
use Rattle.shard_replay.specs.ShardParts.{part_of, time_of}
use Rattle.shard_store.specs.Stores.{entries_of}
use Rattle.node_open.proofs.Parts.{shard_opened}
use Rattle.node_open.proofs.open.open_shard.Goals as goal

pub returns-clause-opened : goal.returns-clause-opened
returns-clause-opened c =
    let r = c.into_parts-tables.result in
    let part = c.in_ok-part.part in
    shard_opened (part_of c.empty.result) (empty_shard c.args.me.0) (part_of part) c.as_slice.result.now c.args.records r.me.0 (time_of part) r.time.0
    r.ceiling.0 r.tables.tables (entries_of r.store) _ c.empty.ensures.part c.as_slice.ensures c.in_ok-part.ensures.replayed c.into_parts-tables.ensures.part
    c.into_parts-tables.ensures.time c.restored.ensures.state
