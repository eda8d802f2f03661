-- The owners of the chunk that has a key, and what covering gives.
use Rattle.std.proofs.Common.{◌≡◌, ℕ, List, [], ◌∷◌, refl, ap, ◌∙◌, Less}
use Rattle.std.specs.Prelude.{Bool, true, false, Option, Some, None, if◌then◌else◌}
use Rattle.std.specs.Ordering.{is_le, is_eq}
use Rattle.std.specs.List.{AllByRecursion}
use Rattle.bson_model.specs.Tree.{Datum}
use Rattle.bson_model.proofs.Booleans.{both}
use Rattle.value_model.specs.Keys.{Bound, Range, value_of_bound, order_bounds, range_span, inside}
use Rattle.value_model.proofs.Flat.{order_total}
use Rattle.std.proofs.lemmas.Cmp.{alike_right}
use Rattle.chunk_model.specs.Tables.{Owned, Chunk, Table, chunk_of, newest, owner_among, owner_now, owner_at}
use Rattle.chunk_model.specs.Changes.{same_range, chunk_with}
use Rattle.chunk_model.specs.Placement.{CoverFrom}
use Rattle.chunk_laws.proofs.Orders.{equal_is, eq_le, le_trans}

abbrev pub owners_of : Datum → List Chunk → List Owned
owners_of key [] = []
owners_of key (c ∷ chunks) = if inside (range_span c.range) key then c.owners else owners_of key chunks

abbrev found : Option Chunk → List Owned
found o = elim o [ None ↦ [] | Some c ↦ c.owners ]

found_by : (has : Bool) (c : Chunk) (o : Option Chunk) (owners : List Owned) → found o ≡ owners
    → found (if has then Some c else o) ≡ (if has then c.owners else owners)
found_by true c o owners e = refl
found_by false c o owners e = e

owners_found : (key : Datum) (chunks : List Chunk) → found (chunk_of key chunks) ≡ owners_of key chunks
owners_found key [] = refl
owners_found key (c ∷ chunks) = found_by _ c (chunk_of key chunks) (owners_of key chunks) (owners_found key chunks)

now_found : (o : Option Chunk) → elim o as (λ (p : Option Chunk). Option ℕ) [ None ↦ None | Some c ↦ newest c.owners ] ≡ newest (found o)
now_found None = refl
now_found (Some c) = refl

at_found : (time : ℕ) (o : Option Chunk) → elim o as (λ
    (p : Option Chunk). Option ℕ) [ None ↦ None | Some c ↦ owner_among time c.owners ] ≡ owner_among time (found o)
at_found time None = refl
at_found time (Some c) = refl

pub now_is : (t : Table) (key : Datum) → owner_now t key ≡ newest (owners_of key t.chunks)
now_is t key = now_found (chunk_of key t.chunks) ∙ ap newest (owners_found key t.chunks)

pub at_is : (t : Table) (key : Datum) (time : ℕ) → owner_at t key time ≡ owner_among time (owners_of key t.chunks)
at_is t key time = at_found time (chunk_of key t.chunks) ∙ ap (owner_among time) (owners_found key t.chunks)

-- ranges with the same bounds have the same keys
pub same_keys : (a b : Range) (key : Datum) → same_range a b ≡ true → inside (range_span a) key ≡ inside (range_span b) key
same_keys a b key e =
    let s = both _ _ e in
    rw (
      order_total.congr (value_of_bound a.min) (value_of_bound b.min) key (equal_is _ s.0),
      alike_right order_total (value_of_bound a.max)
          (value_of_bound b.max) key (equal_is _ s.1),
    ) refl

-- the first bound is not above the second
abbrev pub Below : Bound → Bound → Type 0
Below a b = is_le (order_bounds a b) ≡ true

pub below_trans : (a b c : Bound) → Below a b → Below b c → Below a c
below_trans a b c p q = le_trans (value_of_bound a) (value_of_bound b) (value_of_bound c) p q

-- a chunk begins where the cover does, and ends above
pub next_below : (start : Bound) (r : Range) → is_eq (order_bounds start r.min) ≡ true → order_bounds r.min r.max ≡ Less → Below start r.max
next_below start r here up = below_trans start r.min r.max (eq_le _ here) (ap is_le up)

-- no range among chunks begins below where they begin
pub begins : (r : Range) (e : Chunk) (start : Bound) (chunks : List Chunk) → CoverFrom start chunks → chunk_with r chunks ≡ Some e → Below start r.min
begins r e start [] cover with_r = absurd cc
begins r e start (c ∷ chunks) cover with_r = by_test (same_range c.range r) refl with_r (begins r e c.range.max chunks cover.2)
  where
    by_test : (b : Bool) → same_range c.range r ≡ b → (if b then Some c else chunk_with r chunks) ≡ Some e → (chunk_with r chunks ≡ Some e
        → Below c.range.max r.min) → Below start r.min
    by_test true same f more = below_trans start c.range.min r.min (eq_le _ cover.0) (eq_le _ (both _ _ same).0)
    by_test false other f more = below_trans start c.range.max r.min (next_below start c.range cover.0 cover.1) (more f)

abbrev pub AllBegin : Bound → List Chunk → Type 0
AllBegin start chunks = AllByRecursion (λ d. Below start d.range.min) chunks

pub lower_start : (a b : Bound) (chunks : List Chunk) → Below a b → AllBegin b chunks → AllBegin a chunks
lower_start a b [] low all = tt
lower_start a b (c ∷ chunks) low all = (below_trans a b c.range.min low all.0, lower_start a b chunks low all.1)

pub all_begin : (start : Bound) (chunks : List Chunk) → CoverFrom start chunks → AllBegin start chunks
all_begin start [] cover = tt
all_begin start (c ∷ chunks) cover =
    (eq_le _ cover.0, lower_start start c.range.max chunks (next_below start c.range cover.0 cover.1) (all_begin c.range.max chunks cover.2))
