use Rattle.std.proofs.Common.{◌≡◌, ◌++◌, drop, map}
use Rattle.write_runs.specs.Places.{indices_to, place_view}
use Rattle.write_runs.proofs.places.indices_to.Given as goal

abbrev pub invariant-loop-place : goal.invariant-loop-place
invariant-loop-place l = l.indices.items ++ indices_to l.shard.0 (map place_view (drop l.place-index l.places)) ≡ indices_to l.shard.0 (map place_view l.places)
