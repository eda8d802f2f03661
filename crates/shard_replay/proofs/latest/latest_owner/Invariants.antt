use Rattle.std.proofs.Common.{◌≡◌, drop, map}
use Rattle.std.specs.Prelude.{max}
use Rattle.chunk_table.specs.Meanings.{owned_view}
use Rattle.node_replay.specs.Replays as replays
use Rattle.shard_replay.proofs.latest.latest_owner.Given as goal

abbrev pub invariant-loop-owned : goal.invariant-loop-owned
invariant-loop-owned l =
    max l.latest.0 (replays.latest_owner (map owned_view (drop l.owned-index l.owners))) ≡ replays.latest_owner (map owned_view l.owners)
