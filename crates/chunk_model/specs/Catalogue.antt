-- The changes of the catalogue: a collection is created, a chunk is split, a chunk gets another owner (MongoDB manual, "Data Partitioning with Chunks",
-- "Sharded Cluster Balancer", chunk migration procedure).
use Rattle.std.specs.Prelude.{ℕ, List}
use Rattle.bson_model.specs.Tree.{Datum}
use Rattle.base_model.specs.Identities.{RequestId}
use Rattle.value_model.specs.Keys.{Range}

-- a collection begins: its name, which of the collections of that name it is, and when
pub record Creation : Type 0 where
  pub namespace : List ℕ
  pub epoch : ℕ
  pub at : ℕ

-- the chunk that has a key is split there: the upper half begins with the key
pub record Split : Type 0 where
  pub namespace : List ℕ
  pub middle : Datum
  pub at : ℕ

-- a chunk that a shard owned is another one's from this time on: the move of this id
pub record Commit : Type 0 where
  pub id : RequestId
  pub namespace : List ℕ
  pub range : Range
  pub from : ℕ
  pub to : ℕ
  pub at : ℕ

-- a move of this id is not committed, and never will be
pub record Resolve : Type 0 where
  pub id : RequestId
  pub namespace : List ℕ
  pub range : Range
  pub at : ℕ

-- owners that were followed by others at this time or before are forgotten
pub record Purge : Type 0 where
  pub namespace : List ℕ
  pub below : ℕ
  pub at : ℕ
