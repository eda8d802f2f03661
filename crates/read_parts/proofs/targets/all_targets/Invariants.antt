use Rattle.std.proofs.Common.{◌≡◌, map, take}
use Rattle.chunk_table.specs.Shards.{shard_number}
use Rattle.read_parts.specs.Parts.{target_view, targets_to}
use Rattle.read_parts.proofs.targets.all_targets.Given as goal

abbrev pub invariant-loop-shard : goal.invariant-loop-shard
invariant-loop-shard l = map target_view l.targets.items ≡ targets_to l.table (map shard_number (take l.shard-index l.shards))
