use Rattle.std.proofs.Common.{◌≡◌, drop, map}
use Rattle.std.specs.Prelude.{max}
use Rattle.chunk_table.specs.Meanings.{chunk_view}
use Rattle.node_replay.specs.Replays as replays
use Rattle.shard_replay.proofs.latest.latest_of_chunks.Given as goal

abbrev pub invariant-loop-chunk : goal.invariant-loop-chunk
invariant-loop-chunk l =
    max l.latest.0 (replays.latest_of_chunks (map chunk_view (drop l.chunk-index l.chunks))) ≡ replays.latest_of_chunks (map chunk_view l.chunks)
