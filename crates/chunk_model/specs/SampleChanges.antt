-- Changes to try the definitions on, newest first.
use Rattle.std.specs.Prelude.{ℕ, List, [], ◌∷◌, codes, pos}
use Rattle.bson_model.specs.Tree.{int32_value, int64_value}
use Rattle.value_model.specs.Keys.{Bound, min_bound, key_bound, max_bound}
use Rattle.chunk_model.specs.Catalogue.{Commit}
use Rattle.chunk_model.specs.Tables.{Owned, Chunk, Table}
use Rattle.chunk_model.specs.Requests.{CommitWords}
use Rattle.chunk_model.specs.Changes.{Change, create_change, split_change}

abbrev pub created_first : Change
created_first = create_change (record { namespace = codes "d.c"; epoch = 1; at = 10 })

abbrev pub split_of : ℕ → ℕ → Change
split_of key at = split_change (record { namespace = codes "d.c"; middle = int32_value (pos key); at = at })

abbrev pub bound_at : ℕ → Bound
bound_at key = key_bound (int32_value (pos key))

-- a chunk of epoch 1
abbrev pub chunk_from : Bound → Bound → ℕ → ℕ → List Owned → Chunk
chunk_from min max major minor owners =
    record { range = record { min = min; max = max }; version = record { epoch = 1; major = major; minor = minor }; owners = owners }

abbrev pub first_owner : List Owned
first_owner = record { since = 10; shard = 1 } ∷ []

-- split at 10, then at 5, then at 20
abbrev pub three_splits : List Change
three_splits = split_of 20 13 ∷ split_of 5 12 ∷ split_of 10 11 ∷ created_first ∷ []

abbrev pub four_chunks : List Chunk
four_chunks =
    chunk_from min_bound (bound_at 5) 1 3 first_owner
    ∷ chunk_from (bound_at 5) (bound_at 10) 1 4 first_owner
    ∷ chunk_from (bound_at 10) (bound_at 20) 1 5 first_owner
    ∷ chunk_from (bound_at 20) max_bound 1 6 first_owner
    ∷ []

-- the keys from 10 to 20 go to shard 2, at 30: bounds are compared, so that an int64 is one with an int32
abbrev pub move_away : Commit
move_away = record {
  id = record { router = 4; life = 1; count = 7 };
  namespace = codes "d.c";
  range = record { min = key_bound (int64_value (pos 10)); max = bound_at 20 };
  from = 1;
  to = 2;
  at = 30;
}

-- as its donor requests it
abbrev pub asked_move : CommitWords
asked_move = record {
  id = move_away.id;
  namespace = move_away.namespace;
  range = move_away.range;
  version = record { epoch = 1; major = 1; minor = 5 };
  from = 1;
  to = 2;
}

abbrev pub moved_chunks : List Chunk
moved_chunks =
    chunk_from min_bound (bound_at 5) 2 1 first_owner
    ∷ chunk_from (bound_at 5) (bound_at 10) 1 4 first_owner
    ∷ chunk_from (bound_at 10) (bound_at 20) 2 0 (record { since = 30; shard = 2 } ∷ first_owner)
    ∷ chunk_from (bound_at 20) max_bound 1 6 first_owner
    ∷ []

-- and come back at 40, from a shard that has no other
abbrev pub move_back : Commit
move_back = record {
  id = record { router = 4; life = 1; count = 8 };
  namespace = codes "d.c";
  range = record { min = bound_at 10; max = bound_at 20 };
  from = 2;
  to = 1;
  at = 40;
}

abbrev pub returned_chunks : List Chunk
returned_chunks =
    chunk_from min_bound (bound_at 5) 2 1 first_owner
    ∷ chunk_from (bound_at 5) (bound_at 10) 1 4 first_owner
    ∷ chunk_from (bound_at 10) (bound_at 20) 3 0 (record { since = 40; shard = 1 } ∷ record { since = 30; shard = 2 } ∷ first_owner)
    ∷ chunk_from (bound_at 20) max_bound 1 6 first_owner
    ∷ []

-- the table of d.c with these chunks after so many changes
abbrev pub table_with : ℕ → List Chunk → Table
table_with changes chunks = record { namespace = codes "d.c"; epoch = 1; changes = changes; oldest = 0; chunks = chunks }
