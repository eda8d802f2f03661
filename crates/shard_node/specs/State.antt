-- The state of the definitions that a shard is in.
use Rattle.std.specs.Prelude.{map}
use Rattle.node_traits.specs.States.{Shard, NodeState, shard_state}
use Rattle.protocol_model.specs.Messages.{letter_of}
use Rattle.shard_store.specs.Stores.{entries_of}
use Rattle.shard_node.specs.declared.node.ShardNode.{ShardNode}

abbrev pub shard_view : ShardNode → Shard
shard_view n = record {
  me = n.me.0;
  time = n.time.0;
  tables = n.tables.tables;
  entries = entries_of n.store;
  ceiling = n.ceiling.0;
  parked = map letter_of n.parked.items;
}

abbrev pub state_of : ShardNode → NodeState
state_of n = shard_state (shard_view n)
