use Rattle.std.proofs.Common.{◌≡◌, ◌++◌, drop, map}
use Rattle.chunk_table.specs.Shards.{shard_number}
use Rattle.write_runs.proofs.Placing.{others}
use Rattle.write_runs.specs.Places.{place_view, shards_among}
use Rattle.write_runs.proofs.places.shards_of.Given as goal

abbrev pub invariant-loop-place : goal.invariant-loop-place
invariant-loop-place l =
    map shard_number l.shards.items ++ others (map shard_number l.shards.items) (shards_among (map place_view (drop l.place-index l.places)))
    ≡ shards_among (map place_view l.places)
