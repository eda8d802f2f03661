use Rattle.std.proofs.Common.{◌≡◌, ◌++◌, drop}
use Rattle.std.specs.List.{flat_map}
use Rattle.std.specs.Prelude.{filter, map}
use Rattle.node_traits.specs.ShardRows.{refuses, wants_table}
use Rattle.protocol_model.specs.Messages.{letter_of}
use Rattle.protocol_model.specs.Refusals.{lack_view}
use Rattle.shard_node.specs.State.{shard_view}
use Rattle.shard_node.proofs.node.ShardNode.refusals.Given as goal

abbrev pub invariant-loop-message : goal.invariant-loop-message
invariant-loop-message l =
    map letter_of l.mail
    ++ flat_map (refuses (shard_view l.self) l.time.0 l.missing.node.0 (lack_view l.missing.lack))
    (filter (wants_table l.missing.namespace) (map letter_of (drop l.message-index l.message-items)))
    ≡ flat_map (refuses (shard_view l.self) l.time.0 l.missing.node.0 (lack_view l.missing.lack))
    (filter (wants_table l.missing.namespace) (map letter_of l.self.parked.items))
