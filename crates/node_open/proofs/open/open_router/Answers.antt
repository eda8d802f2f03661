use Rattle.std.proofs.Common.{ap}
use Rattle.node_model.specs.States.{router_state}
use Rattle.node_replay.specs.Durable.{empty_router}
use Rattle.router_replay.specs.RouterParts.{part_of}
use Rattle.node_open.proofs.Parts.{router_opened}
use Rattle.node_open.proofs.open.open_router.Goals as goal

pub returns-clause-opened : goal.returns-clause-opened
returns-clause-opened c =
    router_opened (part_of c.empty.result) (empty_router c.args.me.0 c.args.shards) (part_of c.in_ok-part.part) c.as_slice.result.now
    c.args.records c.me.result.0 c.shards.result c.life.result c.blocks-2.result 0 _ c.empty.ensures c.as_slice.ensures c.in_ok-part.ensures.replayed
    c.me.ensures c.shards.ensures c.life.ensures c.blocks-2.ensures.blocks
    (ap router_state c.restored.ensures.state)
