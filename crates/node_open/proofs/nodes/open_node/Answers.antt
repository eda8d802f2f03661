use Rattle.std.proofs.Common.{arith}
use Rattle.node_open.proofs.Places.{part_of_router}
use Rattle.node_open.proofs.nodes.open_node.Goals as goal

-- all after the shards are routers
pub returns-clause-opened : goal.returns-clause-opened
returns-clause-opened c =
    rw (part_of_router c.args.shards c.args.me c.requires (omega (arith, c.if-me-shards.false))) c.in_ok-open_router.ensures.opened
