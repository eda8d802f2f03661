-- What the node of a number begins with, by the number of shards.
use Rattle.std.proofs.Common.{◌≡◌, ◌∙◌, ℕ, ◌+◌, ◌-◌, ap, arith}
use Rattle.std.specs.Prelude.{◌≤◌, ◌<◌, ◌≢◌}
use Rattle.journal_starts.proofs.OfPlaces.{router_part, shard_part}
use Rattle.journal_starts.specs.Records.{part_at}
use Rattle.node_replay.specs.Durable.{durable_router, durable_shard, empty_router, empty_shard}

-- the place of a shard
pub part_of_shard : (shards me : ℕ) → 1 ≤ shards → me ≢ 0 → me ≤ shards → part_at (shards - 1) me ≡ durable_shard (empty_shard me)
part_of_shard shards me some later within = shard_part (shards - 1) me (omega (arith, later)) (omega (arith, some, within))

-- the place of a router
pub part_of_router : (shards me : ℕ) → 1 ≤ shards → shards < me → part_at (shards - 1) me ≡ durable_router (empty_router me shards)
part_of_router shards me some beyond =
    let same : shards - 1 + 1 ≡ shards = omega (arith, some) in
    router_part (shards - 1) me (omega (arith, some, beyond)) ∙ ap (λ (n : ℕ). durable_router (empty_router me n)) same
