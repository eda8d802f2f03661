-- What the shards of a move of a chunk keep (MongoDB manual, "Sharded Cluster Balancer", chunk migration procedure). The records are
-- own. A move has the identifier of the request that requested it.
use Rattle.std.specs.Prelude.{ℕ, List, Option, Bool}
use Rattle.bson_model.specs.Tree.{Datum, Fields}
use Rattle.base_model.specs.Identities.{RequestId}
use Rattle.value_model.specs.Keys.{Bound, Range}
use Rattle.history_model.specs.Sessions.{SessionRecord}
use Rattle.chunk_model.specs.Versions.{Version}
use Rattle.chunk_model.specs.Tables.{Table}

-- the donor begins to give the chunk of that range and version to a shard
pub record MoveStart : Type 0 where
  pub id : RequestId
  pub namespace : List ℕ
  pub range : Range
  pub to : ℕ
  pub version : Version
  pub time : ℕ

-- from this time on the donor takes no write of the range
pub record Section : Type 0 where
  pub id : RequestId
  pub time : ℕ

-- a shard's part in a move ends: whether the move was committed, the table as of then, and the moment from which on the documents of the
-- shard that has the range no more may be deleted
pub record MoveEnd : Type 0 where
  pub id : RequestId
  pub committed : Bool
  pub table : Table
  pub time : ℕ
  pub due : ℕ

-- the recipient begins to take a range
pub record ReceiveStart : Type 0 where
  pub id : RequestId
  pub namespace : List ℕ
  pub range : Range
  pub from : ℕ
  pub table : Table
  pub time : ℕ

-- a key of the range, and the document that is there; none where it has no document
pub record MovedDocument : Type 0 where
  pub key : Datum
  pub document : Option Fields

-- the how many-th documents that one shard sends the other, and up to where their range was copied with them
pub record Batch : Type 0 where
  pub number : ℕ
  pub upto : Bound
  pub docs : List MovedDocument

-- the recipient stores a batch
pub record ReceivedBatch : Type 0 where
  pub id : RequestId
  pub time : ℕ
  pub batch : Batch

-- the recipient has all documents, and what the donor stores of sessions
pub record ReceiveDone : Type 0 where
  pub id : RequestId
  pub sessions : List SessionRecord

-- what a shard stores of a range below a time is deleted
pub record Deletion : Type 0 where
  pub namespace : List ℕ
  pub range : Range
  pub until : ℕ
