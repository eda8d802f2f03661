-- Tables to try the definitions on.
use Rattle.std.specs.Prelude.{[], ◌∷◌, codes, pos}
use Rattle.bson_model.specs.Tree.{Datum, int32_value}
use Rattle.value_model.specs.Keys.{min_bound, key_bound, max_bound}
use Rattle.chunk_model.specs.Tables.{Chunk, Table}

-- Of d.c, after one move and one split: the keys below 5 are shard 1's since the beginning, at 10; those from 5 on were its too,
-- and are shard 2's since 20.
abbrev pub split_at : Datum
split_at = int32_value (pos 5)

abbrev pub lower_chunk : Chunk
lower_chunk = record {
  range = record { min = min_bound; max = key_bound split_at };
  version = record { epoch = 1; major = 2; minor = 1 };
  owners = record { since = 10; shard = 1 } ∷ [];
}

abbrev pub upper_chunk : Chunk
upper_chunk = record {
  range = record { min = key_bound split_at; max = max_bound };
  version = record { epoch = 1; major = 2; minor = 0 };
  owners = record { since = 20; shard = 2 } ∷ record { since = 10; shard = 1 } ∷ [];
}

abbrev pub moved_table : Table
moved_table = record { namespace = codes "d.c"; epoch = 1; changes = 3; oldest = 0; chunks = lower_chunk ∷ upper_chunk ∷ [] }

-- the table of another collection
abbrev pub other_table : Table
other_table = record { namespace = codes "d.other"; epoch = 1; changes = 1; oldest = 0; chunks = [] }
