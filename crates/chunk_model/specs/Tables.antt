-- Which shard has which keys of a collection, now and at a time (MongoDB manual, "Data Partitioning with Chunks"; that a chunk keeps
-- its owners of the past is own).
use Rattle.std.specs.Prelude.{ℕ, List, [], ◌∷◌, Bool, false, Option, Some, None, ◌==◌, nat_le, nat_lt, if◌then◌else◌}
use Rattle.std.specs.Str.{bytes_eq}
use Rattle.bson_model.specs.Tree.{Datum}
use Rattle.value_model.specs.Keys.{Range, min_bound, max_bound, range_span, inside}
use Rattle.chunk_model.specs.Catalogue.{Creation}
use Rattle.chunk_model.specs.Versions.{Version, greater, no_chunk}

-- the shard has the keys of a chunk from this time on
pub record Owned : Type 0 where
  pub since : ℕ
  pub shard : ℕ

-- a chunk of keys, with its owners, newest first
pub record Chunk : Type 0 where
  pub range : Range
  pub version : Version
  pub owners : List Owned

-- The chunks of a collection: its name, which of the collections of that name it is, how many changes the table has seen, and the
-- time from which on it has owners.
pub record Table : Type 0 where
  pub namespace : List ℕ
  pub epoch : ℕ
  pub changes : ℕ
  pub oldest : ℕ
  pub chunks : List Chunk

-- the first shard is node 1
abbrev pub first_shard : ℕ
first_shard = 1

-- a collection begins with one chunk of all keys, on the first shard
abbrev pub first_chunk : Creation → Chunk
first_chunk c = record {
  range = record { min = min_bound; max = max_bound };
  version = record { epoch = c.epoch; major = 1; minor = 0 };
  owners = record { since = c.at; shard = first_shard } ∷ [];
}

abbrev pub first_table : Creation → Table
first_table c = record { namespace = c.namespace; epoch = c.epoch; changes = 1; oldest = 0; chunks = first_chunk c ∷ [] }

-- the chunk that has the key, if one has it
abbrev pub chunk_of : Datum → List Chunk → Option Chunk
chunk_of key [] = None
chunk_of key (c ∷ chunks) = if inside (range_span c.range) key then Some c else chunk_of key chunks

-- the owner at a time: the newest that is not later, if one is
abbrev pub owner_among : ℕ → List Owned → Option ℕ
owner_among time [] = None
owner_among time (o ∷ owners) = if nat_le o.since time then Some o.shard else owner_among time owners

-- the newest owner
abbrev pub newest : List Owned → Option ℕ
newest [] = None
newest (o ∷ owners) = Some o.shard

-- the shard that has the key now
abbrev pub owner_now : Table → Datum → Option ℕ
owner_now table key = elim (chunk_of key table.chunks) [ None ↦ None | Some c ↦ newest c.owners ]

-- the shard that had the key at a time, if one had it
abbrev pub owner_at : Table → Datum → ℕ → Option ℕ
owner_at table key time = elim (chunk_of key table.chunks) [ None ↦ None | Some c ↦ owner_among time c.owners ]

-- the version of the whole: the greatest of its chunks
abbrev pub greatest_version : Version → List Chunk → Version
greatest_version so_far [] = so_far
greatest_version so_far (c ∷ chunks) = greatest_version (greater so_far c.version) chunks

abbrev pub collection_version : Table → Version
collection_version table = greatest_version (no_chunk table.epoch) table.chunks

abbrev pub is_owner : ℕ → List Owned → Bool
is_owner shard owners = elim owners [ [] ↦ false | o ∷ older ↦ o.shard == shard ]

-- the chunks that a shard has now
abbrev pub chunks_on : ℕ → List Chunk → List Chunk
chunks_on shard [] = []
chunks_on shard (c ∷ chunks) = if is_owner shard c.owners then c ∷ chunks_on shard chunks else chunks_on shard chunks

-- the version of a shard: the greatest of the chunks that it has
abbrev pub shard_version : Table → ℕ → Version
shard_version table shard = greatest_version (no_chunk table.epoch) (chunks_on shard table.chunks)

-- one table has seen more changes than another
abbrev pub is_longer : Table → Table → Bool
is_longer a b = nat_lt b.changes a.changes

-- the table of a collection among these, if it is there
abbrev pub table_of : List ℕ → List Table → Option Table
table_of namespace [] = None
table_of namespace (t ∷ tables) = if bytes_eq t.namespace namespace then Some t else table_of namespace tables

-- the tables with this one: in the place of the one of its collection, where that has seen fewer changes, or after them
abbrev pub with_table : Table → List Table → List Table
with_table t [] = t ∷ []
with_table t (u ∷ tables) = if bytes_eq u.namespace t.namespace then ((if is_longer t u then t else u) ∷ tables) else u ∷ with_table t tables
