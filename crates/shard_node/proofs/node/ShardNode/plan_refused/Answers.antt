use Rattle.std.proofs.Common.{sym, ap, subst}
use Rattle.node_traits.specs.Letters.{letter_input}
use Rattle.node_traits.specs.ShardRows.{AsksNothing, shard_skip}
use Rattle.shard_node.proofs.Planned.{quiet_planned}
use Rattle.shard_node.specs.State.{shard_view}
use Rattle.shard_node.proofs.node.ShardNode.plan_refused.Goals as goal

pub returns-in-None-clause-planned : goal.returns-in-None-clause-planned
returns-in-None-clause-planned c = λ m body timed.
    let s = shard_view c.args.self.now in
    let told = c.of_time.ensures in
    quiet_planned s (letter_input m) c.of_time.result s.time (ap (λ t. t.0) told.time) told.change told.records told.mail
    (shard_skip s m (subst (λ x. AsksNothing x) (sym body) (c.no_table.ensures.none c.in-None.is)))
