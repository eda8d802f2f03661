-- Shards by their numbers, and where one goes among others that rise.
use Rattle.std.specs.Prelude.{◌≡◌, ◌≤◌, ℕ, List, Option, Some, None, length}
use Rattle.std.specs.List.{insert}
use Rattle.cluster_base.specs.declared.identity.NodeId.{NodeId}
use Rattle.chunk_model.specs.Targets.{with_shard}

abbrev pub shard_number : NodeId → ℕ
shard_number node = node.0

abbrev pub PlacesShard : ℕ → List ℕ → Option ℕ → Type 0
PlacesShard shard found None = with_shard shard found ≡ found
PlacesShard shard found (Some place) = (place ≤ length found) × (with_shard shard found ≡ insert found place shard)
