use Rattle.std.proofs.Common.{map}
use Rattle.chunk_table.specs.Shards.{shard_number}
use Rattle.chunk_table.proofs.ShardPlaces.{Less}
use Rattle.chunk_table.proofs.span_targets.place_of.Given as goal

abbrev pub invariant-loop-place : goal.invariant-loop-place
invariant-loop-place l = Less l.shard.0 l.place (map shard_number l.found)
