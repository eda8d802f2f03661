-- The catalogue as the list of its changes, and what they make of the tables of collections (MongoDB manual, "Sharded Cluster
-- Balancer", "Split Chunks in a Sharded Cluster" and chunk migration procedure; that minor numbers count on within their major
-- number is own). A list of changes has the newest first, so the changes before one are the rest of the list after it.
use Rattle.std.specs.Prelude.{ℕ, ◌+◌, List, [], ◌∷◌, Bool, false, ◌&&◌, ◌||◌, ◌==◌, Option, Some, None, map, nat_lt, if◌then◌else◌}
use Rattle.std.specs.Option.{option_map}
use Rattle.std.specs.Ordering.{is_eq, is_lt}
use Rattle.std.specs.Str.{bytes_eq}
use Rattle.bson_model.specs.Tree.{Datum}
use Rattle.base_model.specs.Identities.{RequestId, same_request}
use Rattle.value_model.specs.Keys.{Range, key_bound, order_bounds}
use Rattle.chunk_model.specs.Catalogue.{Creation, Split, Commit}
use Rattle.chunk_model.specs.Versions.{Version}
use Rattle.chunk_model.specs.Tables.{Owned, Chunk, Table, first_table, is_owner, collection_version}

pub data Change : Type 0 where
  create_change : Creation → Change
  split_change : Split → Change
  commit_change : Commit → Change

-- the collection that a change is about
abbrev pub namespace_of : Change → List ℕ
namespace_of (create_change c) = c.namespace
namespace_of (split_change s) = s.namespace
namespace_of (commit_change c) = c.namespace

-- when it happens
abbrev pub time_of : Change → ℕ
time_of (create_change c) = c.at
time_of (split_change s) = s.at
time_of (commit_change c) = c.at

-- the key is in the range, and above its least bound
abbrev pub strictly_inside : Datum → Range → Bool
strictly_inside key range = is_lt (order_bounds range.min (key_bound key)) && is_lt (order_bounds (key_bound key) range.max)

-- a chunk can be split at the key: one has it, and does not begin with it
abbrev pub can_split : Datum → List Chunk → Bool
can_split key [] = false
can_split key (c ∷ chunks) = strictly_inside key c.range || can_split key chunks

-- a chunk begins at the key
abbrev pub begins_at : Datum → List Chunk → Bool
begins_at key [] = false
begins_at key (c ∷ chunks) = is_eq (order_bounds c.range.min (key_bound key)) || begins_at key chunks

-- the greatest of this number and the minor numbers of the chunks that have the major number
abbrev pub greatest_minor : ℕ → ℕ → List Chunk → ℕ
greatest_minor so_far major [] = so_far
greatest_minor so_far major (c ∷ chunks) =
    greatest_minor (if (c.version.major == major) && nat_lt so_far c.version.minor then c.version.minor else so_far) major chunks

-- the halves of a chunk, which get the next two minor numbers, and keep its owners
abbrev pub lower_half : Datum → ℕ → Chunk → Chunk
lower_half middle minor c = record {
  range = record { min = c.range.min; max = key_bound middle };
  version = record { epoch = c.version.epoch; major = c.version.major; minor = minor + 1 };
  owners = c.owners;
}

abbrev pub upper_half : Datum → ℕ → Chunk → Chunk
upper_half middle minor c = record {
  range = record { min = key_bound middle; max = c.range.max };
  version = record { epoch = c.version.epoch; major = c.version.major; minor = minor + 2 };
  owners = c.owners;
}

-- these chunks, of all chunks of a table, where the one that can be split at the key is its halves
abbrev pub split_chunks : Datum → List Chunk → List Chunk → List Chunk
split_chunks middle all [] = []
split_chunks middle all (c ∷ chunks) =
    let minor = greatest_minor 0 c.version.major all in
    if strictly_inside middle c.range then lower_half middle minor c ∷ upper_half middle minor c ∷ split_chunks middle all chunks
    else c ∷ split_chunks middle all chunks

-- the table after a split: none happens at a bound that exists
abbrev pub split_table : Datum → Table → Table
split_table middle t =
    if can_split middle t.chunks
    then record {
      namespace = t.namespace;
      epoch = t.epoch;
      changes = t.changes + 1;
      oldest = t.oldest;
      chunks = split_chunks middle t.chunks t.chunks;
    }
    else t

-- ranges are one where their bounds compare equal
abbrev pub same_range : Range → Range → Bool
same_range a b = is_eq (order_bounds a.min b.min) && is_eq (order_bounds a.max b.max)

-- the chunk that has just this range, if one has it
abbrev pub chunk_with : Range → List Chunk → Option Chunk
chunk_with range [] = None
chunk_with range (c ∷ chunks) = if same_range c.range range then Some c else chunk_with range chunks

-- a chunk of this range gets the version and one owner more, others stay
abbrev pub moved_chunk : Range → Version → Owned → Chunk → Chunk
moved_chunk range version owned c =
    if same_range c.range range then record { range = c.range; version = version; owners = owned ∷ c.owners } else c

-- the first of the chunks that the shard has now gets the version
abbrev pub with_lowest : ℕ → Version → List Chunk → List Chunk
with_lowest shard version [] = []
with_lowest shard version (c ∷ chunks) =
    if is_owner shard c.owners then record { range = c.range; version = version; owners = c.owners } ∷ chunks
    else c ∷ with_lowest shard version chunks

-- the table after a range was moved: its chunk gets the next major number and a new owner, and the lowest chunk that the donor still
-- has, if any, the same major number
abbrev pub move_table : Range → ℕ → Owned → Table → Table
move_table range donor owned t =
    let major = (collection_version t).major + 1 in
    record {
      namespace = t.namespace;
      epoch = t.epoch;
      changes = t.changes + 1;
      oldest = t.oldest;
      chunks =
          with_lowest donor (record { epoch = t.epoch; major = major; minor = 1 })
          (map (moved_chunk range (record { epoch = t.epoch; major = major; minor = 0 }) owned) t.chunks);
    }

abbrev pub commit_table : Commit → Table → Table
commit_table c t = move_table c.range c.from (record { since = c.at; shard = c.to }) t

-- the table of a change's collection after it, from the one before it, if there was one
abbrev pub table_after : Change → Option Table → Option Table
table_after (create_change c) None = Some (first_table c)
table_after (create_change c) (Some t) = Some t
table_after (split_change s) before = option_map (split_table s.middle) before
table_after (commit_change c) before = option_map (commit_table c) before

-- the table that the changes make of a collection, if it was created
abbrev pub known_table : List ℕ → List Change → Option Table
known_table namespace [] = None
known_table namespace (x ∷ older) =
    if bytes_eq (namespace_of x) namespace then table_after x (known_table namespace older) else known_table namespace older

-- how many collections of this name were created
abbrev pub creations : List ℕ → List Change → ℕ
creations namespace [] = 0
creations namespace (x ∷ older) = elim x [
  | create_change c ↦ if bytes_eq c.namespace namespace then creations namespace older + 1 else creations namespace older
  | split_change s ↦ creations namespace older
  | commit_change c ↦ creations namespace older
]

-- the move of this id is committed
abbrev pub is_committed : RequestId → List Change → Bool
is_committed id [] = false
is_committed id (x ∷ older) = elim x [
  | create_change c ↦ is_committed id older
  | split_change s ↦ is_committed id older
  | commit_change c ↦ same_request c.id id || is_committed id older
]
