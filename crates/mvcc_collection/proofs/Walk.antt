-- The first document after a key is the first of those that a search between edges meets.
use Rattle.std.proofs.Common.{◌≡◌, ℕ, List, [], ◌∷◌, ◌++◌, refl, sym, ap, ◌∙◌, Ordering, Less, Equal, Greater}
use Rattle.std.specs.Prelude.{Bool, true, false, cond, not, ◌&&◌, Option, Some, None, filter, if◌then◌else◌}
use Rattle.std.specs.BTreeMap.Range.{IsLeBy, IsLtBy, is_past_end, range_contains, entries_between}
use Rattle.std.specs.Bound.{IsForward}
use Rattle.std.specs.declared.ops.Bound as edges
use Rattle.std.specs.declared.ops.Bound.TheVariants.{Excluded}
use Rattle.std.specs.List.{slice_get}
use Rattle.std.specs.Ordering.{is_le, is_lt, is_gt, ordering_reverse}
use Rattle.bson_values.specs.Tree.{Datum, Fields}
use Rattle.value_compare.specs.Keys.{Bound, min_bound, key_bound, max_bound, value_of_bound, Range, range_span, IsRange, order_bounds, is_key, inside}
use Rattle.value_compare.specs.Order.{order}
use Rattle.value_compare.proofs.Flat.{order_total}
use Rattle.history_model.specs.Documents.{Rows}
use Rattle.mvcc_collection.specs.Chains.{Past}
use Rattle.mvcc_collection.specs.Collections.{document_in}
use Rattle.mvcc_collection.specs.Edges.{lower_edge, upper_edge, least_edge}
use Rattle.mvcc_collection.specs.Present.{row_of, rows_in, is_after, rows_after, first_row}
use Rattle.mvcc_collection.proofs.Edges.{key_between, inside_between, and_both, up_to_edge, up_to_edge_too, span_forward}
use Rattle.mvcc_collection.proofs.Rows.{Entries}

-- what is of the range after the key
abbrev pub is_next : Range → Option Datum → Datum → Bool
is_next range after key = inside (range_span range) key && is_after after key

-- a test of keys goes through to the documents
rows_filter : (p : Datum → Bool) (chains : List Past) (time : ℕ) (es : Entries) →
    rows_in chains time (filter (λ e. p e.0) es) ≡ filter (λ row. p row.0) (rows_in chains time es)
rows_filter p chains time [] = refl
rows_filter p chains time (e ∷ es) = by (p e.0) refl (document_in (slice_get chains e.1) time) refl (rows_filter p chains time es)
  where
    by : (b : Bool) → p e.0 ≡ b → (d : Option Fields) → document_in (slice_get chains e.1) time ≡ d →
        rows_in chains time (filter (λ e. p e.0) es) ≡ filter (λ row. p row.0) (rows_in chains time es) →
        rows_in chains time (cond b (e ∷ filter (λ e. p e.0) es) (filter (λ e. p e.0) es)) ≡ filter (λ row. p row.0) (row_of e.0 (document_in (slice_get chains e.1) time) ++ rows_in chains time es)
    by true is (Some d) has rest = rw (has, is) (ap (λ (l : Rows). (e.0, d) ∷ l) rest)
    by true is None has rest = rw has rest
    by false is (Some d) has rest = rw (has, is) rest
    by false is None has rest = rw has rest

-- a narrower test leaves none where a wider one does, and the first where it passes
first_none : (wide narrow : Datum → Bool) → ((k : Datum) → narrow k ≡ true → wide k ≡ true) → (rows : Rows) →
    filter (λ row. wide row.0) rows ≡ [] → first_row (filter (λ row. narrow row.0) rows) ≡ None
first_none wide narrow within [] none = refl
first_none wide narrow within (row ∷ rows) none = by (wide row.0) refl (narrow row.0) refl none (λ e. first_none wide narrow within rows e)
  where
    by : (w : Bool) → wide row.0 ≡ w → (n : Bool) → narrow row.0 ≡ n → cond w (row ∷ filter (λ row. wide row.0) rows) (filter (λ row. wide row.0) rows) ≡ [] →
        (filter (λ row. wide row.0) rows ≡ [] → first_row (filter (λ row. narrow row.0) rows) ≡ None) →
        first_row (cond n (row ∷ filter (λ row. narrow row.0) rows) (filter (λ row. narrow row.0) rows)) ≡ None
    by true w n m e rest = absurd (cc e)
    by false w true m e rest = absurd (let h : true ≡ false = sym (within row.0 m) ∙ w in cc)
    by false w false m e rest = rest e

first_some : (wide narrow : Datum → Bool) → ((k : Datum) → narrow k ≡ true → wide k ≡ true) → (rows : Rows) (r : Datum × Fields) (more : Rows) →
    filter (λ row. wide row.0) rows ≡ r ∷ more → narrow r.0 ≡ true → first_row (filter (λ row. narrow row.0) rows) ≡ Some r
first_some wide narrow within [] r more first pass = absurd cc
first_some wide narrow within (row ∷ rows) r more first pass = by (wide row.0) refl (narrow row.0) refl first (λ e. first_some wide narrow within rows r more e pass)
  where
    by : (w : Bool) → wide row.0 ≡ w → (n : Bool) → narrow row.0 ≡ n → cond w (row ∷ filter (λ row. wide row.0) rows) (filter (λ row. wide row.0) rows) ≡ r ∷ more →
        (filter (λ row. wide row.0) rows ≡ r ∷ more → first_row (filter (λ row. narrow row.0) rows) ≡ Some r) →
        first_row (cond n (row ∷ filter (λ row. narrow row.0) rows) (filter (λ row. narrow row.0) rows)) ≡ Some r
    by true w true m e rest = let same : row ≡ r = cc in ap (λ (x : Datum × Fields). Some x) same
    by true w false m e rest = absurd (let same : row ≡ r = cc in let h : true ≡ false = sym pass ∙ sym (ap (λ (x : Datum × Fields). narrow x.0) same) ∙ m in cc)
    by false w true m e rest = absurd (let h : true ≡ false = sym (within row.0 m) ∙ w in cc)
    by false w false m e rest = rest e

-- the first of what passes passes
first_passes : (p : Datum → Bool) (rows : Rows) (r : Datum × Fields) (more : Rows) → filter (λ row. p row.0) rows ≡ r ∷ more → p r.0 ≡ true
first_passes p [] r more first = absurd cc
first_passes p (row ∷ rows) r more first = by (p row.0) refl first (λ e. first_passes p rows r more e)
  where
    by : (b : Bool) → p row.0 ≡ b → cond b (row ∷ filter (λ row. p row.0) rows) (filter (λ row. p row.0) rows) ≡ r ∷ more →
        (filter (λ row. p row.0) rows ≡ r ∷ more → p r.0 ≡ true) → p r.0 ≡ true
    by true is e rest = let same : row ≡ r = cc in sym (ap (λ (x : Datum × Fields). p x.0) same) ∙ is
    by false is e rest = rest e

-- ORDERS

less_is : (o : Ordering) → is_lt o ≡ true → o ≡ Less
less_is Less e = refl
less_is Equal e = absurd (cc e)
less_is Greater e = absurd (cc e)

greater_is : (o : Ordering) → is_gt o ≡ true → o ≡ Greater
greater_is Less e = absurd (cc e)
greater_is Equal e = absurd (cc e)
greater_is Greater e = refl

not_greater : (o : Ordering) → is_gt o ≡ false → is_le o ≡ true
not_greater Less e = refl
not_greater Equal e = refl
not_greater Greater e = absurd (cc e)

-- a value above one that is at or above another is above that
after_low : (a b c : Datum) → is_le (order a b) ≡ true → is_lt (order b c) ≡ true → is_le (order a c) ≡ true
after_low a b c le less = by (order a b) refl (order b c) refl le less
  where
    by : (o : Ordering) → order a b ≡ o → (p : Ordering) → order b c ≡ p → is_le o ≡ true → is_lt p ≡ true → is_le (order a c) ≡ true
    by Less x Less y le less = ap is_le (order_total.trans a b c x y)
    by Equal x Less y le less = ap is_le (order_total.congr a b c x ∙ y)
    by Greater x p y le less = absurd (cc le)
    by o x Equal y le less = absurd (cc less)
    by o x Greater y le less = absurd (cc less)

-- one below a value is below those at or above it
below_high : (a b c : Datum) → order b a ≡ Greater → is_le (order b c) ≡ true → is_lt (order a c) ≡ true
below_high a b c greater le = by (order b c) refl le
  where
    less : order a b ≡ Less
    less = order_total.antisymm a b ∙ ap ordering_reverse greater

    by : (o : Ordering) → order b c ≡ o → is_le o ≡ true → is_lt (order a c) ≡ true
    by Less e le = ap is_lt (order_total.trans a b c less e)
    by Equal e le = ap is_lt (order_total.antisymm a c ∙ ap ordering_reverse (sym (order_total.congr b c a e) ∙ greater))
    by Greater e le = absurd (cc le)

differ : true ≡ false → ⊥
differ e = cc

-- THE EDGES

abbrev pub is_between : Range → edges.Bound Datum → Datum → Bool
is_between range least key = range_contains order least (upper_edge range.max) key

-- what is asked of a least edge: between it and the end of the range are the keys of the range after the key
pub record IsLeast (range : Range) (after : Option Datum) (least : edges.Bound Datum) : Type 0 where
  pub forward : IsForward (IsLeBy order) (IsLtBy order) least (upper_edge range.max)
  pub within : (k : Datum) → is_next range after k ≡ true → is_between range least k ≡ true
  pub only : (k : Datum) → is_key k ≡ true → is_between range least k ≡ true → is_next range after k ≡ true

some_is : {X : Type 0} {a b : X} → Some a ≡ Some b → a ≡ b
some_is e = cc

module _ (range : Range) (forward : IsRange range) where
  -- where the key, if there is one, is below the range
  from_start : (after : Option Datum) → ((k : Datum) → inside (range_span range) k ≡ true → is_after after k ≡ true) → IsLeast range after (lower_edge range.min)
  from_start after all = record {
    forward = span_forward (range_span range) forward;
    within = λ k next. inside_between (range_span range) k forward (and_both (inside (range_span range) k) (is_after after k) next).0;
    only = λ k own between.
        let here : inside (range_span range) k ≡ true = sym (key_between (range_span range) k forward own) ∙ between in
        rw (here, all k here) refl;
  }

  -- where the key is in the range
  from_key : (low : Datum) → inside (range_span range) low ≡ true → IsLeast range (Some low) (Excluded low)
  from_key low here = record {
    forward = of_max range.max ends.1;
    within = λ k next.
        let parts = and_both (inside (range_span range) k) (is_lt (order low k)) next in
        let own = and_both (is_le (order_bounds range.min (key_bound k))) (is_lt (order_bounds (key_bound k) range.max)) parts.0 in
        rw (parts.1, up_to_edge_too range.min range.max k forward own.1) refl;
    only = λ k own between.
        let parts = and_both (is_lt (order low k)) (not (is_past_end order (upper_edge range.max) k)) between in
        let above : is_le (order_bounds range.min (key_bound k)) ≡ true = after_low (value_of_bound range.min) low k ends.0 parts.0 in
        let below : is_lt (order_bounds (key_bound k) range.max) ≡ true = sym (up_to_edge range.min range.max k forward own) ∙ parts.1 in
        rw (above, below, parts.0) refl;
  }
    where
      ends : (is_le (order_bounds range.min (key_bound low)) ≡ true) × (is_lt (order_bounds (key_bound low) range.max) ≡ true)
      ends = and_both (is_le (order_bounds range.min (key_bound low))) (is_lt (order_bounds (key_bound low) range.max)) here

      of_max : (high : Bound) → is_lt (order_bounds (key_bound low) high) ≡ true → IsForward (IsLeBy order) (IsLtBy order) (Excluded low) (upper_edge high)
      of_max min_bound below = tt
      of_max (key_bound k) below = less_is (order low k) below
      of_max max_bound below = tt

  below_start : (low : Datum) → is_gt (order_bounds range.min (key_bound low)) ≡ true → (k : Datum) → inside (range_span range) k ≡ true →
      is_lt (order low k) ≡ true
  below_start low greater k here =
      below_high low (value_of_bound range.min) k (greater_is (order_bounds range.min (key_bound low)) greater)
      (and_both (is_le (order_bounds range.min (key_bound k))) (is_lt (order_bounds (key_bound k) range.max)) here).0

  pub least_is : (after : Option Datum) (least : edges.Bound Datum) → least_edge range after ≡ Some least → IsLeast range after least
  least_is None least is = rw (sym (some_is is)) (from_start None (λ k here. refl))
  least_is (Some low) least is = by (inside (range_span range) low) refl (is_gt (order_bounds range.min (key_bound low))) refl is
    where
      by : (here : Bool) → inside (range_span range) low ≡ here → (under : Bool) → is_gt (order_bounds range.min (key_bound low)) ≡ under →
          (if here then Some (Excluded low) else if under then Some (lower_edge range.min) else None) ≡ Some least → IsLeast range (Some low) least
      by true h under u e = rw (sym (some_is e)) (from_key low h)
      by false h true u e = rw (sym (some_is e)) (from_start (Some low) (below_start low u))
      by false h false u e = absurd cc

  -- where the key is above the range, none of it is after the key
  pub none_after : (after : Option Datum) → least_edge range after ≡ None → (k : Datum) → is_next range after k ≡ true → ⊥
  none_after None is k next = cc
  none_after (Some low) is k next = by (inside (range_span range) low) refl (is_gt (order_bounds range.min (key_bound low))) refl is
    where
      parts : (inside (range_span range) k ≡ true) × (is_lt (order low k) ≡ true)
      parts = and_both (inside (range_span range) k) (is_lt (order low k)) next

      high : is_lt (order low (value_of_bound range.max)) ≡ true
      high = ap is_lt (order_total.trans low k (value_of_bound range.max) (less_is (order low k) parts.1)
          (less_is (order k (value_of_bound range.max)) (and_both (is_le (order_bounds range.min (key_bound k))) (is_lt (order_bounds (key_bound k) range.max)) parts.0).1))

      by : (here : Bool) → inside (range_span range) low ≡ here → (under : Bool) → is_gt (order_bounds range.min (key_bound low)) ≡ under →
          (if here then Some (Excluded low) else if under then Some (lower_edge range.min) else None) ≡ None → ⊥
      by true h under u e = cc
      by false h true u e = cc
      by false h false u e =
          let le : is_le (order_bounds range.min (key_bound low)) ≡ true = not_greater (order_bounds range.min (key_bound low)) u in
          let here : inside (range_span range) low ≡ true = rw (le, high) refl in
          differ (sym here ∙ h)

-- THE SEARCH

none_pass : (p : Datum → Bool) → ((k : Datum) → p k ≡ true → ⊥) → (rows : Rows) → first_row (filter (λ row. p row.0) rows) ≡ None
none_pass p never rows = first_none (λ k. false) p (λ k e. absurd (never k e)) rows (all_out rows)
  where
    all_out : (rows : Rows) → filter (λ row. false) rows ≡ []
    all_out [] = refl
    all_out (row ∷ rows) = all_out rows

-- nothing is searched
pub walk_nowhere : (range : Range) (after : Option Datum) → IsRange range → least_edge range after ≡ None → (rows : Rows) →
    first_row (rows_after range after rows) ≡ None
walk_nowhere range after forward is rows = none_pass (is_next range after) (none_after range forward after is) rows

module _ (range : Range) (after : Option Datum) (least : edges.Bound Datum) (forward : IsRange range) (is : least_edge range after ≡ Some least)
    (chains : List Past) (time : ℕ) (es between : Entries) (found : between ≡ entries_between order least (upper_edge range.max) es) where
  as_filtered : filter (λ row. is_between range least row.0) (rows_in chains time es) ≡ rows_in chains time between
  as_filtered = sym (rows_filter (is_between range least) chains time es) ∙ ap (λ (l : Entries). rows_in chains time l) (sym found)

  facts : IsLeast range after least
  facts = least_is range forward after least is

  -- it meets no document
  pub walk_ends : rows_in chains time between ≡ [] → first_row (rows_after range after (rows_in chains time es)) ≡ None
  walk_ends none = first_none (is_between range least) (is_next range after) facts.within (rows_in chains time es) (as_filtered ∙ none)

  -- it meets this one first
  pub walk_meets : (r : Datum × Fields) (more : Rows) → rows_in chains time between ≡ r ∷ more → is_key r.0 ≡ true →
      first_row (rows_after range after (rows_in chains time es)) ≡ Some r
  walk_meets r more meets own =
      let first = as_filtered ∙ meets in
      first_some (is_between range least) (is_next range after) facts.within (rows_in chains time es) r more first
      (facts.only r.0 own (first_passes (is_between range least) (rows_in chains time es) r more first))
