use Rattle.std.proofs.Common.{◌≡◌, ◌++◌, drop}
use Rattle.std.specs.Prelude.{filter, map}
use Rattle.node_traits.specs.ShardRows.{tries, wants_table}
use Rattle.protocol_model.specs.Messages.{letter_of}
use Rattle.shard_node.specs.State.{shard_view}
use Rattle.shard_node.proofs.node.ShardNode.tries.Given as goal

abbrev pub invariant-loop-message : goal.invariant-loop-message
invariant-loop-message l =
    map letter_of l.mail ++ tries (shard_view l.self) l.time.0 (filter (wants_table l.namespace) (map letter_of (drop l.message-index l.message-items)))
    ≡ tries (shard_view l.self) l.time.0 (filter (wants_table l.namespace) (map letter_of l.self.parked.items))
