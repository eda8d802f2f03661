-- What a shard finds where it compares a router's version of a table with its own (MongoDB manual, "Sharded Cluster Query Routing", stale
-- versions).
use Rattle.std.specs.Prelude.{ℕ, Option, Some, None, if◌then◌else◌}
use Rattle.chunk_model.specs.Versions.{Version, agrees, is_later}
use Rattle.chunk_model.specs.Tables.{Table, collection_version, shard_version}

-- what a router sends along: the versions of the shard that it sends to, and of the whole table
pub record Sent : Type 0 where
  pub shard : Version
  pub collection : Version

abbrev pub sent_by : Table → ℕ → Sent
sent_by table shard = record { shard = shard_version table shard; collection = collection_version table }

pub data Verdict : Type 0 where
  fits : Verdict
  -- the shard's table is older than the router's, or it has none
  shard_is_old : Verdict
  -- the router's table is older; the shard's version
  router_is_old : Version → Verdict

abbrev pub verdict_of : Sent → ℕ → Option Table → Verdict
verdict_of sent me None = shard_is_old
verdict_of sent me (Some table) =
    if is_later sent.collection (collection_version table) then shard_is_old
    else if agrees sent.shard (shard_version table me) then fits
    else router_is_old (collection_version table)
