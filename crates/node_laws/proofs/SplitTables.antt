-- A chunk begins at a key where one was split there, or where none can be.
use Rattle.std.proofs.Common.{◌≡◌, List, [], ◌∷◌, refl, Ordering, Less, Equal, Greater}
use Rattle.std.specs.Prelude.{Bool, true, false, ◌&&◌, ◌||◌, ℕ, if◌then◌else◌}
use Rattle.std.specs.Ordering.{ordering_reverse, is_le, is_lt, is_eq}
use Rattle.bson_model.proofs.Booleans.{both}
use Rattle.bson_model.specs.Tree.{Datum}
use Rattle.value_model.specs.Order.{order}
use Rattle.value_model.specs.Keys.{is_key, Bound, min_bound, key_bound, max_bound, value_of_bound, order_bounds}
use Rattle.value_model.proofs.Spans.{whole_inside}
use Rattle.value_model.proofs.Flat.{order_total}
use Rattle.chunk_model.specs.Tables.{Chunk, Table}
use Rattle.chunk_model.specs.Changes.{strictly_inside, can_split, begins_at, greatest_minor, lower_half, upper_half, split_chunks, split_table}
use Rattle.chunk_model.specs.Placement.{CoverFrom, Covers}
use Rattle.chunk_laws.proofs.Orders.{eq_le, le_trans, le_lt_trans, itself, eq_turned}

or_right : (a b : Bool) → b ≡ true → (a || b) ≡ true
or_right true b e = refl
or_right false b e = e

-- the upper half begins at the key
split_begins : (middle : Datum) (all chunks : List Chunk) → can_split middle chunks ≡ true → begins_at middle (split_chunks middle all chunks) ≡ true
split_begins middle all [] can = absurd (cc)
split_begins middle all (c ∷ chunks) can =
    by_test (strictly_inside middle c.range) refl can (λ e. split_begins middle all chunks e)
  where
    minor : ℕ
    minor = greatest_minor 0 c.version.major all

    by_test : (b : Bool) → strictly_inside middle c.range ≡ b → (b || can_split middle chunks) ≡ true
        → (can_split middle chunks ≡ true → begins_at middle (split_chunks middle all chunks) ≡ true)
        → begins_at middle (if b then lower_half middle minor c ∷ upper_half middle minor c ∷ split_chunks middle all chunks else c ∷ split_chunks middle all chunks) ≡ true
    by_test true h e more =
        or_right (is_eq (order_bounds c.range.min (key_bound middle)))
        (is_eq (order_bounds (key_bound middle) (key_bound middle)) || begins_at middle (split_chunks middle all chunks))
        (rw (itself middle) refl)
    by_test false h e more = or_right (is_eq (order_bounds c.range.min (key_bound middle))) (begins_at middle (split_chunks middle all chunks)) (more e)

pub split_bound : (middle : Datum) (t : Table) → can_split middle t.chunks ≡ true → begins_at middle (split_table middle t).chunks ≡ true
split_bound middle t can = rw can (split_begins middle t.chunks t.chunks can)

eq_not_lt : (o : Ordering) → is_eq o ≡ true → is_lt o ≡ true → false ≡ true
eq_not_lt Less e l = absurd cc
eq_not_lt Equal e l = absurd cc
eq_not_lt Greater e l = absurd cc

le_less : (o : Ordering) → is_le o ≡ true → is_eq o ≡ false → is_lt o ≡ true
le_less Less e n = refl
le_less Equal e n = absurd cc
le_less Greater e n = absurd cc

not_less : (a b : Datum) → is_lt (order a b) ≡ false → is_le (order b a) ≡ true
not_less a b above = turned (order a b) (order b a) (order_total.antisymm b a) above
  where
    turned : (o p : Ordering) → p ≡ ordering_reverse o → is_lt o ≡ false → is_le p ≡ true
    turned Less p e n = absurd cc
    turned Equal p e n = rw e refl
    turned Greater p e n = rw e refl

false_true : false ≡ true → ⊥
false_true e = cc

cover_begins : (middle : Datum) (start : Bound) (chunks : List Chunk) → CoverFrom start chunks → is_le (order_bounds start (key_bound middle)) ≡ true
    → is_lt (order_bounds (key_bound middle) max_bound) ≡ true → can_split middle chunks ≡ false → begins_at middle chunks ≡ true
cover_begins middle start [] cover low high can =
    absurd (false_true (eq_not_lt (order_bounds start max_bound) cover
    (le_lt_trans (value_of_bound start) middle (value_of_bound max_bound) low high)))
cover_begins middle start (c ∷ chunks) cover low high can =
    by_begin (is_eq (order_bounds c.range.min (key_bound middle))) refl (is_lt (order_bounds (key_bound middle) c.range.max)) refl
    (λ l e. cover_begins middle c.range.max chunks cover.2 l high e)
  where
    above : is_le (order_bounds c.range.min (key_bound middle)) ≡ true
    above =
        le_trans (value_of_bound c.range.min) (value_of_bound start) middle
        (eq_le _ (eq_turned (value_of_bound start) (value_of_bound c.range.min) cover.0)) low

    or_false : (a b : Bool) → (a || b) ≡ false → (a ≡ false) × (b ≡ false)
    or_false true b e = absurd cc
    or_false false b e = (refl, e)

    and_false : (a b : Bool) → a ≡ true → (a && b) ≡ false → b ≡ false
    and_false true b t e = e
    and_false false b t e = absurd cc

    by_begin : (b : Bool) → is_eq (order_bounds c.range.min (key_bound middle)) ≡ b → (h : Bool) → is_lt (order_bounds (key_bound middle) c.range.max) ≡ h
        → (is_le (order_bounds c.range.max (key_bound middle)) ≡ true → can_split middle chunks ≡ false → begins_at middle chunks ≡ true)
        → (b || begins_at middle chunks) ≡ true
    by_begin true e h l more = refl
    by_begin false e h l more =
        let parts = or_false (strictly_inside middle c.range) (can_split middle chunks) can in
        let over : is_lt (order_bounds (key_bound middle) c.range.max) ≡ false = and_false (is_lt (order_bounds c.range.min (key_bound middle)))
        (is_lt (order_bounds (key_bound middle) c.range.max)) (le_less (order_bounds c.range.min (key_bound middle)) above e) parts.0 in
        more (not_less middle (value_of_bound c.range.max) over) parts.1

-- where none can be split a chunk begins there
pub begins_already : (middle : Datum) (chunks : List Chunk) → Covers chunks → is_key middle ≡ true → can_split middle chunks ≡ false
    → begins_at middle chunks ≡ true
begins_already middle chunks covers valid can =
    let w = both _ _ (whole_inside middle valid) in
    cover_begins middle min_bound chunks covers w.0 w.1 can
