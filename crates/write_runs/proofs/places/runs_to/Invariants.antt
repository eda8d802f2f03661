use Rattle.std.proofs.Common.{◌≡◌, ◌++◌, drop, map}
use Rattle.chunk_table.specs.Shards.{shard_number}
use Rattle.write_runs.specs.Places.{place_view, runs_to}
use Rattle.write_runs.specs.Runs.{runs_view}
use Rattle.write_runs.proofs.places.runs_to.Given as goal

abbrev pub invariant-loop-shard : goal.invariant-loop-shard
invariant-loop-shard l =
    runs_view l.runs.items ++ runs_to l.table (map shard_number (drop l.shard-index l.shards)) (map place_view l.places)
    ≡ runs_to l.table (map shard_number l.shards) (map place_view l.places)
