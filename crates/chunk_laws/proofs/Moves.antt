-- A commit changes the owner of just the keys of its range, and keeps the chunks a cover.
use Rattle.std.proofs.Common.{◌≡◌, ℕ, List, [], ◌∷◌, refl, sym, ap, ◌∙◌, Less}
use Rattle.std.specs.Prelude.{Bool, true, false, Some, map, if◌then◌else◌}
use Rattle.std.specs.Ordering.{is_le, is_lt}
use Rattle.bson_model.specs.Tree.{Datum}
use Rattle.bson_model.proofs.Booleans.{both}
use Rattle.value_model.specs.Order.{order}
use Rattle.value_model.specs.Keys.{Bound, Range, value_of_bound, order_bounds, range_span, inside}
use Rattle.chunk_model.specs.Versions.{Version}
use Rattle.chunk_model.specs.Tables.{Owned, Chunk, is_owner}
use Rattle.chunk_model.specs.Changes.{same_range, chunk_with, moved_chunk, with_lowest}
use Rattle.chunk_model.specs.Placement.{CoverFrom}
use Rattle.chunk_model.specs.Targets.{overlap}
use Rattle.chunk_laws.proofs.Orders.{eq_le, le_trans, not_lt}
use Rattle.chunk_laws.proofs.Owners.{owners_of, same_keys, Below, below_trans, begins}

-- ranges stay
pub moved_cover : (r : Range) (v : Version) (o : Owned) (start : Bound) (chunks : List Chunk) → CoverFrom start chunks
    → CoverFrom start (map (moved_chunk r v o) chunks)
moved_cover r v o start [] cover = cover
moved_cover r v o start (c ∷ chunks) cover = by_test (same_range c.range r) (moved_cover r v o c.range.max chunks cover.2)
  where
    moved : Chunk
    moved = record { range = c.range; version = v; owners = o ∷ c.owners }

    by_test : (b : Bool) → CoverFrom c.range.max (map (moved_chunk r v o) chunks)
        → CoverFrom start ((if b then moved else c) ∷ map (moved_chunk r v o) chunks)
    by_test true rest = (cover.0, cover.1, rest)
    by_test false rest = (cover.0, cover.1, rest)

pub lowest_cover : (shard : ℕ) (v : Version) (start : Bound) (chunks : List Chunk) → CoverFrom start chunks → CoverFrom start (with_lowest shard v chunks)
lowest_cover shard v start [] cover = cover
lowest_cover shard v start (c ∷ chunks) cover = by_test (is_owner shard c.owners) (lowest_cover shard v c.range.max chunks cover.2)
  where
    raised : Chunk
    raised = record { range = c.range; version = v; owners = c.owners }

    by_test : (b : Bool) → CoverFrom c.range.max (with_lowest shard v chunks)
        → CoverFrom start (if b then raised ∷ chunks else c ∷ with_lowest shard v chunks)
    by_test true rest = (cover.0, cover.1, cover.2)
    by_test false rest = (cover.0, cover.1, rest)

-- a version changes no owner
lowest_by : (b : Bool) (key : Datum) (v : Version) (c : Chunk) (chunks others : List Chunk) → owners_of key others ≡ owners_of key chunks
    → owners_of key (if b then (record { range = c.range; version = v; owners = c.owners }) ∷ chunks else c ∷ others) ≡ owners_of key (c ∷ chunks)
lowest_by true key v c chunks others e = refl
lowest_by false key v c chunks others e = rw e refl

pub lowest_owners : (shard : ℕ) (v : Version) (key : Datum) (chunks : List Chunk) → owners_of key (with_lowest shard v chunks) ≡ owners_of key chunks
lowest_owners shard v key [] = refl
lowest_owners shard v key (c ∷ chunks) = lowest_by _ key v c chunks (with_lowest shard v chunks) (lowest_owners shard v key chunks)

-- a key outside the range keeps its owners
pub moved_others : (r : Range) (v : Version) (o : Owned) (key : Datum) (chunks : List Chunk) → inside (range_span r) key ≡ false
    → owners_of key (map (moved_chunk r v o) chunks) ≡ owners_of key chunks
moved_others r v o key [] out = refl
moved_others r v o key (c ∷ chunks) out = by_test (same_range c.range r) refl (moved_others r v o key chunks out)
  where
    by_test : (b : Bool) → same_range c.range r ≡ b → owners_of key (map (moved_chunk r v o) chunks) ≡ owners_of key chunks
        → owners_of key ((if b then (record { range = c.range; version = v; owners = o ∷ c.owners }) else c) ∷ map
        (moved_chunk r v o) chunks) ≡ owners_of key (c ∷ chunks)
    by_test true same rest = rw (same_keys c.range r key same ∙ out) rest
    by_test false other rest = rw rest refl

-- a key that one chunk has is outside the range of a later one
pub apart : (r : Range) (e c : Chunk) (chunks : List Chunk) (key : Datum) → CoverFrom c.range.max chunks → chunk_with r chunks ≡ Some e
    → inside (range_span r) key ≡ true → inside (range_span c.range) key ≡ false
apart r e c chunks key cover with_r has = by_test (inside (range_span c.range) key) refl
  where
    by_test : (b : Bool) → inside (range_span c.range) key ≡ b → b ≡ false
    by_test true own =
        let low : Below c.range.max r.min = begins r e c.range.max chunks cover with_r in
        let up : is_le (order (value_of_bound c.range.max) key) ≡ true = le_trans (value_of_bound c.range.max) (value_of_bound r.min) key low
        (both _ _ has).0 in
        let no = not_lt key (value_of_bound c.range.max) up in
        sym (both _ _ own).1 ∙ no
    by_test false own = refl

-- a key in the range gets the owner
pub moved_keys : (r : Range) (v : Version) (o : Owned) (e : Chunk) (key : Datum) (start : Bound) (chunks : List Chunk) → CoverFrom start chunks
    → chunk_with r chunks ≡ Some e → inside (range_span r) key ≡ true
    → owners_of key (map (moved_chunk r v o) chunks) ≡ o ∷ owners_of key chunks
moved_keys r v o e key start [] cover with_r has = absurd cc
moved_keys r v o e key start (c ∷ chunks) cover with_r has = by_test (same_range c.range r) refl with_r (moved_keys r v o e key c.range.max chunks cover.2)
  where
    by_test : (b : Bool) → same_range c.range r ≡ b → (if b then Some c else chunk_with r chunks) ≡ Some e
        → (chunk_with r chunks ≡ Some e → inside (range_span r) key ≡ true → owners_of key (map (moved_chunk r v o) chunks) ≡ o ∷ owners_of key chunks)
        → owners_of key ((if b then (record { range = c.range; version = v; owners = o ∷ c.owners }) else c) ∷ map
        (moved_chunk r v o) chunks) ≡ o ∷ owners_of key (c ∷ chunks)
    by_test true same f more = rw (same_keys c.range r key same ∙ has) refl
    by_test false other f more = rw (apart r e c chunks key cover.2 f has) (more f has)

-- the chunk that was found has its shard and owners, and no other has its range
pub is_in : (r : Range) (e : Chunk) (key : Datum) (start : Bound) (chunks : List Chunk) → CoverFrom start chunks → chunk_with r chunks ≡ Some e
    → inside (range_span r) key ≡ true → owners_of key chunks ≡ e.owners
is_in r e key start [] cover with_r has = absurd cc
is_in r e key start (c ∷ chunks) cover with_r has = by_test (same_range c.range r) refl with_r (is_in r e key c.range.max chunks cover.2)
  where
    by_test : (b : Bool) → same_range c.range r ≡ b → (if b then Some c else chunk_with r chunks) ≡ Some e
        → (chunk_with r chunks ≡ Some e → inside (range_span r) key ≡ true → owners_of key chunks ≡ e.owners)
        → owners_of key (c ∷ chunks) ≡ e.owners
    by_test true same f more = rw (same_keys c.range r key same ∙ has) (let i : c ≡ e = cc in ap (λ (x : Chunk). x.owners) i)
    by_test false other f more = rw (apart r e c chunks key cover.2 f has) (more f has)

-- of chunks that begin at the end of this range or later none has just this range, and none overlaps it
pub late_out : (r : Range) (start : Bound) (d : Chunk) → Below r.max start → order_bounds r.min r.max ≡ Less → Below start d.range.min
    → (same_range d.range r ≡ false) × (overlap d.range r ≡ false)
late_out r start d end up low =
    let above : Below r.max d.range.min = below_trans r.max start d.range.min end low in
    (by_same (same_range d.range r) refl above, by_overlap (overlap d.range r) refl above)
  where
    by_same : (b : Bool) → same_range d.range r ≡ b → Below r.max d.range.min → b ≡ false
    by_same true same above =
        let high : is_le (order (value_of_bound r.max) (value_of_bound r.min)) ≡ true = below_trans r.max d.range.min r.min above (eq_le _
        (both _ _ same).0) in
        let no = not_lt (value_of_bound r.min) (value_of_bound r.max) high in
        sym (ap is_lt up) ∙ no
    by_same false same above = refl

    by_overlap : (b : Bool) → overlap d.range r ≡ b → Below r.max d.range.min → b ≡ false
    by_overlap true over above = sym (both _ _ over).0 ∙ not_lt (value_of_bound d.range.min) (value_of_bound r.max) above
    by_overlap false over above = refl
