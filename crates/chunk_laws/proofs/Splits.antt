-- A split changes no owner, and keeps the chunks a cover.
use Rattle.std.proofs.Common.{◌≡◌, ℕ, ◌+◌, List, [], ◌∷◌, refl, sym, ap, ◌∙◌, Ordering, Less, Equal, Greater}
use Rattle.std.specs.Prelude.{Bool, true, false, ◌&&◌, if◌then◌else◌}
use Rattle.std.specs.Ordering.{is_le, is_lt, ordering_reverse}
use Rattle.bson_model.specs.Tree.{Datum}
use Rattle.bson_model.proofs.Booleans.{both}
use Rattle.value_model.specs.Order.{order}
use Rattle.value_model.specs.Keys.{Bound, value_of_bound}
use Rattle.value_model.proofs.Flat.{order_total}
use Rattle.chunk_model.specs.Tables.{Owned, Chunk, Table, owner_now, owner_at, newest, owner_among}
use Rattle.chunk_model.specs.Changes.{strictly_inside, greatest_minor, lower_half, upper_half, split_chunks, split_table}
use Rattle.chunk_model.specs.Placement.{CoverFrom}
use Rattle.chunk_laws.proofs.Orders.{less_is, lt_le, le_trans, le_lt_trans, itself}
use Rattle.chunk_laws.proofs.Owners.{owners_of, now_is, at_is}

-- a key is in one of the halves just where it is in the chunk
halves : (o : Ordering) (low high : Bool) (owners others : List Owned) → (is_lt o ≡ true → high ≡ true) → (is_le (ordering_reverse o) ≡ true → low ≡ true)
    → (if low && is_lt o then owners else if is_le (ordering_reverse o) && high then owners else others) ≡ (if low && high then owners else others)
halves Less true high owners others up down = rw (up refl) refl
halves Less false high owners others up down = refl
halves Equal low true owners others up down = rw (down refl) refl
halves Equal low false owners others up down = rw (down refl) refl
halves Greater low true owners others up down = rw (down refl) refl
halves Greater low false owners others up down = rw (down refl) refl

pub split_owners : (middle key : Datum) (all chunks : List Chunk) → owners_of key (split_chunks middle all chunks) ≡ owners_of key chunks
split_owners middle key all [] = refl
split_owners middle key all (c ∷ chunks) = by_test (strictly_inside middle c.range) refl (split_owners middle key all chunks)
  where
    minor : ℕ
    minor = greatest_minor 0 c.version.major all

    by_test : (b : Bool) → strictly_inside middle c.range ≡ b → owners_of key (split_chunks middle all chunks) ≡ owners_of key chunks
        → owners_of key (if b then lower_half middle minor c ∷ upper_half middle minor c ∷ split_chunks middle all chunks else c ∷ split_chunks middle all chunks) ≡ owners_of key (c ∷ chunks)
    by_test true within rest =
        let w = both _ _ within in
        rw (rest, order_total.antisymm middle key)
        (halves (order key middle) (is_le (order (value_of_bound c.range.min) key)) (is_lt (order key (value_of_bound c.range.max))) c.owners
        (owners_of key chunks)
        (λ under. le_lt_trans key middle (value_of_bound c.range.max) (lt_le _ under) w.1)
        (λ above. le_trans (value_of_bound c.range.min) middle key (lt_le _ w.0) (ap is_le (order_total.antisymm middle key) ∙ above)))
    by_test false out rest = rw rest refl

pub split_cover : (middle : Datum) (all : List Chunk) (start : Bound) (chunks : List Chunk) → CoverFrom start chunks
    → CoverFrom start (split_chunks middle all chunks)
split_cover middle all start [] cover = cover
split_cover middle all start (c ∷ chunks) cover = by_test (strictly_inside middle c.range) refl (split_cover middle all c.range.max chunks cover.2)
  where
    minor : ℕ
    minor = greatest_minor 0 c.version.major all

    by_test : (b : Bool) → strictly_inside middle c.range ≡ b → CoverFrom c.range.max (split_chunks middle all chunks)
        → CoverFrom start (if b then lower_half middle minor c ∷ upper_half middle minor c ∷ split_chunks middle all chunks else c ∷ split_chunks middle all chunks)
    by_test true within rest =
        let w = both _ _ within in
        (cover.0, less_is _ w.0, (itself middle, less_is _ w.1, rest))
    by_test false out rest = (cover.0, cover.1, rest)

by_can : (can : Bool) (middle : Datum) (t : Table) (key : Datum)
    → owners_of key (if can then
    (record { namespace = t.namespace; epoch = t.epoch; changes = t.changes + 1; oldest = t.oldest; chunks = split_chunks middle t.chunks t.chunks }) else t).chunks ≡ owners_of key t.chunks
by_can true middle t key = split_owners middle key t.chunks t.chunks
by_can false middle t key = refl

pub split_now : (middle : Datum) (t : Table) (key : Datum) → owner_now (split_table middle t) key ≡ owner_now t key
split_now middle t key = now_is (split_table middle t) key ∙ ap newest (by_can _ middle t key) ∙ sym (now_is t key)

pub split_at : (middle : Datum) (t : Table) (key : Datum) (time : ℕ) → owner_at (split_table middle t) key time ≡ owner_at t key time
split_at middle t key time = at_is (split_table middle t) key time ∙ ap (owner_among time) (by_can _ middle t key) ∙ sym (at_is t key time)
