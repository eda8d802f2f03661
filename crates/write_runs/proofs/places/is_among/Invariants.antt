use Rattle.std.proofs.Common.{◌≡◌, ◌==◌, drop, map}
use Rattle.std.specs.List.{list_any}
use Rattle.chunk_table.specs.Shards.{shard_number}
use Rattle.write_runs.proofs.places.is_among.Given as goal

abbrev pub invariant-loop-other : goal.invariant-loop-other
invariant-loop-other l = list_any (λ other. other == l.shard.0) (map shard_number (drop l.other-index l.shards)) ≡ list_any (λ other. other == l.shard.0) (map shard_number l.shards)
