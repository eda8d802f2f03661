use Rattle.std.proofs.Common.{◌≡◌, ◌++◌, drop}
use Rattle.std.specs.Prelude.{map}
use Rattle.node_traits.specs.ShardRows.{asks_again}
use Rattle.protocol_model.specs.Messages.{letter_of}
use Rattle.shard_node.specs.State.{shard_view}
use Rattle.shard_node.proofs.node.ShardNode.plan_moment.Given as goal

abbrev pub invariant-loop-message : goal.invariant-loop-message
invariant-loop-message l =
    map letter_of l.mail ++ asks_again (shard_view l.self) l.time.0 (map letter_of (drop l.message-index l.message-items))
    ≡ asks_again (shard_view l.self) l.time.0 (map letter_of l.self.parked.items)
