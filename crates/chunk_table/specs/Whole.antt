-- What each table of the program keeps: its chunks are ranges of keys that follow one another and give every key an owner (MongoDB
-- manual, "Data Partitioning with Chunks"), and a journal can encode it.
use Rattle.std.specs.Prelude.{◌≡◌, ◌<◌, ◌^◌, List, [], ◌∷◌, Bool, true, ◌&&◌, codes, is_some, length}
use Rattle.std.specs.Ordering.{is_eq}
use Rattle.std.specs.List.{AllByRecursion}
use Rattle.bson_model.specs.Tree.{Datum, no_fields, field}
use Rattle.value_model.specs.Keys.{is_key, Bound, min_bound, key_bound, max_bound, IsRange, order_bounds}
use Rattle.bson_model.specs.Limits.{IsWritable}
use Rattle.chunk_model.specs.Tables.{Chunk, Table, newest, owner_now}

-- the chunks follow one another from this bound to the end of all keys, and each has an owner
abbrev pub follow_from : Bound → List Chunk → Bool
follow_from start [] = is_eq (order_bounds start max_bound)
follow_from start (c ∷ chunks) = is_eq (order_bounds start c.range.min) && (is_some (newest c.owners) && follow_from c.range.max chunks)

-- the document {_id: key} of a key at the bound can be written
abbrev pub IsWritableBound : Bound → Type 0
IsWritableBound min_bound = Unit {0}
IsWritableBound (key_bound key) = IsWritable (field (codes "_id") key no_fields)
IsWritableBound max_bound = Unit {0}

pub record IsWritableChunk (c : Chunk) : Type 0 where
  pub min : IsWritableBound c.range.min
  pub max : IsWritableBound c.range.max
  pub count : length c.owners < 2 ^ 32

-- some keys may be in the chunk: its range is not empty
abbrev pub HasRange : Chunk → Type 0
HasRange c = IsRange c.range

pub record IsWhole (t : Table) : Type 0 where
  pub ranges : AllByRecursion HasRange t.chunks
  pub follow : follow_from min_bound t.chunks ≡ true
  pub owned : (key : Datum) → is_key key ≡ true → is_some (owner_now t key) ≡ true
  pub count : length t.chunks < 2 ^ 32
  pub writable : AllByRecursion IsWritableChunk t.chunks
