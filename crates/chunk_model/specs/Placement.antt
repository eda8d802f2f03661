-- Who owns a key at a time, by the changes of the catalogue alone, and which changes may follow others (MongoDB manual, "Data
-- Partitioning with Chunks" and "Sharded Cluster Balancer"; that owners of the past are distinguished by time is own).
use Rattle.std.specs.Prelude.{◌≡◌, ◌≢◌, ◌<◌, ◌+◌, ℕ, List, [], ◌∷◌, true, false, ◌&&◌, Option, Some, None, nat_le, if◌then◌else◌}
use Rattle.std.specs.List.{AllByRecursion}
use Rattle.std.specs.Ordering.{is_eq}
use Rattle.std.specs.Str.{bytes_eq}
use Rattle.bson_model.specs.Tree.{Datum}
use Rattle.value_model.specs.Keys.{is_key, Bound, min_bound, max_bound, IsRange, order_bounds, range_span, inside}
use Rattle.chunk_model.specs.Catalogue.{Creation, Split, Commit}
use Rattle.chunk_model.specs.Tables.{Chunk, Table, first_shard, newest, owner_at, owner_now}
use Rattle.chunk_model.specs.Changes.{Change, create_change, split_change, commit_change, time_of, known_table, creations, is_committed, can_split, chunk_with}

-- The shard that owns a key at a time: the recipient of the newest commit, not later than that, of a range that has the key; else
-- the first shard, where the collection was created by then.
abbrev pub owner : List ℕ → Datum → ℕ → List Change → Option ℕ
owner namespace key time [] = None
owner namespace key time (x ∷ older) = elim x [
  | create_change c ↦ if bytes_eq c.namespace namespace && nat_le c.at time then Some first_shard else owner namespace key time older
  | split_change s ↦ owner namespace key time older
  | commit_change c ↦
      if bytes_eq c.namespace namespace && (nat_le c.at time && inside (range_span c.range) key) then Some c.to
      else owner namespace key time older
]

-- a collection may be created where there is none of its name, as the next of that name
pub record CreationFits (c : Creation) (older : List Change) : Type 0 where
  pub absent : known_table c.namespace older ≡ None
  pub next : c.epoch ≡ creations c.namespace older + 1

-- a chunk may be split at a key that it has and does not begin with
pub record SplitFits (s : Split) (older : List Change) : Type 0 where
  pub table : Table
  pub known : known_table s.namespace older ≡ Some table
  pub key : is_key s.middle ≡ true
  pub inside : can_split s.middle table.chunks ≡ true

-- a chunk may be moved once by one request, from the shard that has it to another one
pub record CommitFits (c : Commit) (older : List Change) : Type 0 where
  pub fresh : is_committed c.id older ≡ false
  pub table : Table
  pub known : known_table c.namespace older ≡ Some table
  pub chunk : Chunk
  pub range : chunk_with c.range table.chunks ≡ Some chunk
  pub owner : newest chunk.owners ≡ Some c.from
  pub apart : c.from ≢ c.to

abbrev pub ChangeFits : Change → List Change → Type 0
ChangeFits (create_change c) older = CreationFits c older
ChangeFits (split_change s) older = SplitFits s older
ChangeFits (commit_change c) older = CommitFits c older

-- a change is later than all before it, and fits them
pub record Follows (x : Change) (older : List Change) : Type 0 where
  pub later : AllByRecursion (λ y. time_of y < time_of x) older
  pub fits : ChangeFits x older

-- each change of the list follows those before it
abbrev pub AreFitting : List Change → Type 0
AreFitting [] = Unit {0}
AreFitting (x ∷ older) = Follows x older × AreFitting older

-- the chunks are ranges of keys, each beginning where the one before it ends, from this bound to the end of all keys
abbrev pub CoverFrom : Bound → List Chunk → Type 0
CoverFrom start [] = is_eq (order_bounds start max_bound) ≡ true
CoverFrom start (c ∷ chunks) = (is_eq (order_bounds start c.range.min) ≡ true) × IsRange c.range × CoverFrom c.range.max chunks

-- the chunks cover all keys, in order and without overlap
abbrev pub Covers : List Chunk → Type 0
Covers chunks = CoverFrom min_bound chunks

-- two tables give a shard the same keys now, and what the first one gives it at a time the second one gives it too
pub record SameKeys (shard : ℕ) (a b : Table) : Type 0 where
  pub on : (key : Datum) → is_key key ≡ true → owner_now a key ≡ Some shard → owner_now b key ≡ Some shard
  pub back : (key : Datum) → is_key key ≡ true → owner_now b key ≡ Some shard → owner_now a key ≡ Some shard
  pub at : (key : Datum) (time : ℕ) → is_key key ≡ true → owner_at a key time ≡ Some shard → owner_at b key time ≡ Some shard
