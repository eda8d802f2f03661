use Rattle.std.proofs.Common.{ap}
use Rattle.node_traits.specs.Letters.{letter_input, time_told}
use Rattle.node_traits.specs.ShardRows.{heard, shard_time}
use Rattle.node_traits.specs.Ids.{id_view}
use Rattle.shard_node.proofs.Planned.{told_planned}
use Rattle.shard_node.specs.State.{shard_view}
use Rattle.shard_node.proofs.node.ShardNode.plan_time.Goals as goal

pub returns-clause-planned : goal.returns-clause-planned
returns-clause-planned c = λ m body timed.
    let s = shard_view c.args.self.now in
    let ask = c.args.ask in
    told_planned s (letter_input m) c.of_message.result ask.id.router.0 c.args.time.0 (heard s m) (time_told (id_view ask.id)) _
    (ap (λ t. t.0) c.of_message.ensures.time) timed c.of_message.ensures.change c.of_message.ensures.records c.of_message.ensures.mail c.message-message.ensures
    (shard_time s m (id_view ask.id) body)
