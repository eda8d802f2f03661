-- A walk from one document after the cursor to the next.
use Rattle.std.proofs.Common.{◌≡◌, ℕ, ◌+◌, ◌<◌, List, [], ◌∷◌, ◌++◌, length, refl, sym, ap, ◌∙◌, arith, append_assoc, Ordering, Less, Equal, Greater}
use Rattle.std.specs.Prelude.{Bool, true, false, cond, not, ◌&&◌, Option, Some, None, IfSome, filter, map}
use Rattle.std.specs.List.{AllByRecursion}
use Rattle.std.specs.Ordering.{is_le, is_lt, ordering_reverse}
use Rattle.std.proofs.lemmas.Cmp.{tied_itself}
use Rattle.std.proofs.lemmas.List.{append-nil}
use Rattle.bson_values.specs.Tree.{Datum, Fields, max_key_value}
use Rattle.value_model.specs.Keys.{Bound, min_bound, key_bound, max_bound, Range, range_span, inside, is_key, order_bounds}
use Rattle.value_model.specs.Order.{order}
use Rattle.value_model.proofs.Flat.{order_total}
use Rattle.history_model.specs.Documents.{Rows, AreInOrder}
use Rattle.history_model.proofs.Collections.{above_row, later_rows}
use Rattle.record_model.specs.Moves.{MovedDocument}
use Rattle.move_model.specs.Sources.{Source, is_up_to}
use Rattle.move_model.specs.Batches.{document_bytes, documents_after, has_room, last_bound, members_bytes, moved}
use Rattle.move_model.proofs.Cursors.{none_up_to_least, past_less, past_more}
use Rattle.move_model.proofs.Ends.{no_documents}
use Rattle.mvcc_collection.specs.Present.{first_row, is_after, rows_after}
use Rattle.migration_source.specs.Fills.{IsCut, bound_at, members_of}

-- FILTERS OF ROWS

abbrev AreAbove : Datum → Rows → Type 0
AreAbove low rows = AllByRecursion (λ row. order low row.0 ≡ Less) rows

own_above : (low : Datum) (rows : Rows) → AllByRecursion (λ y. order low y ≡ Less) (map (λ row. row.0) rows) → AreAbove low rows
own_above low [] all = tt
own_above low (row ∷ rows) all = (all.0, own_above low rows all.1)

first_above : (row : Datum × Fields) (rows : Rows) → AreInOrder (row ∷ rows) → AreAbove row.0 rows
first_above row rows ordered = own_above row.0 rows (above_row row rows ordered)

-- tests that agree on rows above one
same_above : (p q : Datum → Bool) (low : Datum) → ((k : Datum) → order low k ≡ Less → p k ≡ q k) → (rows : Rows) → AreAbove low rows →
    filter (λ row. p row.0) rows ≡ filter (λ row. q row.0) rows
same_above p q low alike [] above = refl
same_above p q low alike (row ∷ rows) above =
    ap (λ (b : Bool). cond b (row ∷ filter (λ x. p x.0) rows) (filter (λ x. p x.0) rows)) (alike row.0 above.0)
    ∙ ap (λ (l : Rows). cond (q row.0) (row ∷ l) l) (same_above p q low alike rows above.1)

same_filter : (p q : Datum → Bool) → ((k : Datum) → p k ≡ q k) → (rows : Rows) → filter (λ row. p row.0) rows ≡ filter (λ row. q row.0) rows
same_filter p q alike [] = refl
same_filter p q alike (row ∷ rows) =
    ap (λ (b : Bool). cond b (row ∷ filter (λ x. p x.0) rows) (filter (λ x. p x.0) rows)) (alike row.0)
    ∙ ap (λ (l : Rows). cond (q row.0) (row ∷ l) l) (same_filter p q alike rows)

-- the first of filtered rows above one is above it
passed_above : (p : Datum → Bool) (low : Datum) (rows : Rows) (r : Datum × Fields) (more : Rows) → filter (λ row. p row.0) rows ≡ r ∷ more → AreAbove low rows →
    order low r.0 ≡ Less
passed_above p low [] r more first above = absurd cc
passed_above p low (row ∷ rows) r more first above = by (p row.0) first (λ e. passed_above p low rows r more e above.1)
  where
    by : (b : Bool) → cond b (row ∷ filter (λ x. p x.0) rows) (filter (λ x. p x.0) rows) ≡ r ∷ more →
        (filter (λ x. p x.0) rows ≡ r ∷ more → order low r.0 ≡ Less) → order low r.0 ≡ Less
    by true e rest = let same : row ≡ r = cc in ap (λ (x : Datum × Fields). order low x.0) (sym same) ∙ above.0
    by false e rest = rest e

less_of : (low k : Datum) → order low k ≡ Less → is_lt (order low k) ≡ true
less_of low k less = ap is_lt less

-- a key above one that is after a third is after it
after_more : (after : Option Datum) (low k : Datum) → is_after after low ≡ true → order low k ≡ Less → is_after after k ≡ true
after_more None low k is less = refl
after_more (Some a) low k is less = by (order a low) refl is
  where
    by : (o : Ordering) → order a low ≡ o → is_lt o ≡ true → is_lt (order a k) ≡ true
    by Less e is = ap is_lt (order_total.trans a low k e less)
    by Equal e is = absurd (cc is)
    by Greater e is = absurd (cc is)

both : (a b : Bool) → (a && b) ≡ true → (a ≡ true) × (b ≡ true)
both true true e = (refl, refl)
both true false e = absurd (cc e)
both false b e = absurd (cc e)

module _ (range : Range) where
  abbrev is_next : Option Datum → Datum → Bool
  is_next after key = inside (range_span range) key && is_after after key

  -- the rows after the first of them
  tail_is : (after : Option Datum) (rows : Rows) (r : Datum × Fields) (more : Rows) → AreInOrder rows → rows_after range after rows ≡ r ∷ more →
      rows_after range (Some r.0) rows ≡ more
  tail_is after [] r more ordered first = absurd cc
  tail_is after (row ∷ rows) r more ordered first =
      by (is_next after row.0) refl first (λ e. tail_is after rows r more (later_rows row rows ordered) e)
    where
      above : AreAbove row.0 rows
      above = first_above row rows ordered

      -- the first row is not after itself, and the others are
      own : is_next after row.0 ≡ true → rows_after range (Some row.0) (row ∷ rows) ≡ rows_after range after rows
      own is =
          let itself : is_lt (order row.0 row.0) ≡ false = ap is_lt (tied_itself order_total row.0) in
          let out : is_next (Some row.0) row.0 ≡ false = rw (itself, (both (inside (range_span range) row.0) (is_after after row.0) is).0) refl in
          ap (λ (b : Bool). cond b (row ∷ rows_after range (Some row.0) rows) (rows_after range (Some row.0) rows)) out
          ∙ same_above (is_next (Some row.0)) (is_next after) row.0
          (λ k less. ap (λ (b : Bool). inside (range_span range) k && b)
          (less_of row.0 k less ∙ sym (after_more after row.0 k (both (inside (range_span range) row.0) (is_after after row.0) is).1 less))) rows above

      -- a row below the first is not after it
      other : (rows_after range after rows ≡ r ∷ more) → rows_after range (Some r.0) rows ≡ more → rows_after range (Some r.0) (row ∷ rows) ≡ more
      other e rest =
          let less : order row.0 r.0 ≡ Less = passed_above (is_next after) row.0 rows r more e above in
          let not_less : is_lt (order r.0 row.0) ≡ false = ap is_lt (order_total.antisymm r.0 row.0 ∙ ap ordering_reverse less) in
          let out : is_next (Some r.0) row.0 ≡ false = never (inside (range_span range) row.0) (is_lt (order r.0 row.0)) not_less in
          ap (λ (b : Bool). cond b (row ∷ rows_after range (Some r.0) rows) (rows_after range (Some r.0) rows)) out ∙ rest
        where
          never : (a b : Bool) → b ≡ false → (a && b) ≡ false
          never true b e = e
          never false b e = refl

      by : (b : Bool) → is_next after row.0 ≡ b → cond b (row ∷ rows_after range after rows) (rows_after range after rows) ≡ r ∷ more →
          (rows_after range after rows ≡ r ∷ more → rows_after range (Some r.0) rows ≡ more) → rows_after range (Some r.0) (row ∷ rows) ≡ more
      by true is e rest =
          let same : row ≡ r = cc in
          let tail : rows_after range after rows ≡ more = cc in
          ap (λ (x : Datum × Fields). rows_after range (Some x.0) (row ∷ rows)) (sym same) ∙ own is ∙ tail
      by false is e rest = other e (rest e)

  list_of : (rows : Rows) (r : Datum × Fields) → first_row rows ≡ Some r → (more : Rows) × (rows ≡ r ∷ more)
  list_of [] r e = absurd cc
  list_of (row ∷ rows) r e = let same : row ≡ r = cc in (rows, ap (λ (x : Datum × Fields). x ∷ rows) same)

  pub step_is : (after : Option Datum) (rows : Rows) (r : Datum × Fields) → AreInOrder rows → first_row (rows_after range after rows) ≡ Some r →
      rows_after range after rows ≡ r ∷ rows_after range (Some r.0) rows
  step_is after rows r ordered first =
      let l = list_of (rows_after range after rows) r first in
      l.1 ∙ ap (λ (more : Rows). r ∷ more) (sym (tail_is after rows r l.0 ordered l.1))

  -- fewer are left
  pub step_fewer : (after : Option Datum) (rows : Rows) (r : Datum × Fields) → AreInOrder rows → first_row (rows_after range after rows) ≡ Some r →
      length (rows_after range (Some r.0) rows) < length (rows_after range after rows)
  step_fewer after rows r ordered first =
      let n : length (rows_after range after rows) ≡ length (r ∷ rows_after range (Some r.0) rows) = ap length (step_is after rows r ordered first) in
      omega (arith, n)

  -- the first document after the key, if there is one, has a value that may be a key
  abbrev pub FirstIsKey : Option Datum → Rows → Type 0
  FirstIsKey after rows = IfSome (first_row (rows_after range after rows)) (λ r. is_key r.0 ≡ true)

  -- THE DOCUMENTS AFTER THE CURSOR

  abbrev is_left : Bound → Datum → Bool
  is_left cursor key = inside (range_span range) key && not (is_up_to cursor key)

  turned : (o p : Ordering) → o ≡ ordering_reverse p → not (is_le o) ≡ is_lt p
  turned o Less e = rw e refl
  turned o Equal e = rw e refl
  turned o Greater e = rw e refl

  -- from below all keys on
  from_least : (rows : Rows) → AreInOrder rows → FirstIsKey None rows → filter (λ row. is_left min_bound row.0) rows ≡ rows_after range None rows
  from_least [] ordered keyed = refl
  from_least (row ∷ rows) ordered keyed = by (inside (range_span range) row.0) refl keyed (λ k. from_least rows (later_rows row rows ordered) k)
    where
      left : Rows
      left = filter (λ x. is_left min_bound x.0) rows

      by : (b : Bool) → inside (range_span range) row.0 ≡ b →
          IfSome (first_row (cond (b && true) (row ∷ rows_after range None rows) (rows_after range None rows))) (λ r. is_key r.0 ≡ true) →
          (FirstIsKey None rows → filter (λ x. is_left min_bound x.0) rows ≡ rows_after range None rows) →
          cond (b && not (is_up_to min_bound row.0)) (row ∷ filter (λ x. is_left min_bound x.0) rows) (filter (λ x. is_left min_bound x.0) rows)
          ≡ cond (b && true) (row ∷ rows_after range None rows) (rows_after range None rows)
      by false is keyed rest = rest keyed
      by true is keyed rest =
          let low : is_up_to min_bound row.0 ≡ false = none_up_to_least row.0 keyed in
          ap (λ (t : Bool). cond (not t) (row ∷ filter (λ x. is_left min_bound x.0) rows) (filter (λ x. is_left min_bound x.0) rows)) low
          ∙ ap (λ (l : Rows). row ∷ l)
          (same_above (is_left min_bound) (is_next None) row.0
          (λ k less. ap (λ (t : Bool). inside (range_span range) k && not t) (past_more min_bound row.0 k low (past_less row.0 k less))) rows (first_above row rows ordered))

  left_is : (start : Option Datum) (rows : Rows) → AreInOrder rows → FirstIsKey start rows →
      filter (λ row. is_left (bound_at start) row.0) rows ≡ rows_after range start rows
  left_is None rows ordered keyed = from_least rows ordered keyed
  left_is (Some low) rows ordered keyed =
      same_filter (is_left (key_bound low)) (is_next (Some low))
      (λ k. ap (λ (t : Bool). inside (range_span range) k && t) (turned (order k low) (order low k) (order_total.antisymm k low))) rows

pub documents_are : (s : Source) (start : Option Datum) (rows : Rows) → bound_at start ≡ s.cursor → AreInOrder rows → FirstIsKey s.range start rows →
    documents_after s rows ≡ rows_after s.range start rows
documents_are s start rows at ordered keyed =
    ap (λ (c : Bound). filter (λ row. is_left s.range c row.0) rows) (sym at) ∙ left_is s.range start rows ordered keyed

-- nothing is after a cursor above all keys
max_not_less : (b : Bound) → is_lt (order_bounds max_bound b) ≡ false
max_not_less min_bound = refl
max_not_less (key_bound key) = by key
  where
    by : (d : Datum) → is_lt (order max_key_value d) ≡ false
    by max_key_value = refl
    by d = refl
max_not_less max_bound = refl

pub none_past_greatest : (s : Source) (rows : Rows) → s.cursor ≡ max_bound → [] ≡ members_of (documents_after s rows)
none_past_greatest s rows at =
    ap members_of (sym (no_documents s rows (ap (λ (c : Bound). is_lt (order_bounds c s.range.max)) at ∙ max_not_less s.range.max)))

-- THE WALK

-- the members so far are the documents from the start up to the key, and those after it are still to come
pub record Reaches (s : Source) (rows : Rows) (start after : Option Datum) (now : List MovedDocument) : Type 0 where
  pub whole : members_of (rows_after s.range start rows) ≡ now ++ members_of (rows_after s.range after rows)
  pub last : bound_at after ≡ last_bound s.cursor now
  pub keyed : FirstIsKey s.range after rows → FirstIsKey s.range start rows

pub reach_none : (s : Source) (rows : Rows) (start : Option Datum) → bound_at start ≡ s.cursor → Reaches s rows start start []
reach_none s rows start at = record { whole = refl; last = at; keyed = λ k. k }

last_more : (low : Bound) (ms : List MovedDocument) (m : MovedDocument) → key_bound m.key ≡ last_bound low (ms ++ m ∷ [])
last_more low [] m = refl
last_more low (x ∷ ms) m = last_more (key_bound x.key) ms m

module _ (s : Source) (rows : Rows) (start after : Option Datum) (now : List MovedDocument) (reaches : Reaches s rows start after now) (ordered : AreInOrder rows) where
  keyed_by : (r : Datum × Fields) → first_row (rows_after s.range after rows) ≡ Some r → is_key r.0 ≡ true → FirstIsKey s.range start rows
  keyed_by r first own = reaches.keyed (ap_some (first_row (rows_after s.range after rows)) first)
    where
      ap_some : (o : Option (Datum × Fields)) → o ≡ Some r → IfSome o (λ x. is_key x.0 ≡ true)
      ap_some None e = tt
      ap_some (Some x) e = let same : x ≡ r = cc in ap (λ (y : Datum × Fields). is_key y.0) same ∙ own

  goes_on : (r : Datum × Fields) → first_row (rows_after s.range after rows) ≡ Some r →
      members_of (rows_after s.range start rows) ≡ now ++ (moved r.0 (Some r.1) ∷ members_of (rows_after s.range (Some r.0) rows))
  goes_on r first = reaches.whole ∙ ap (λ (l : Rows). now ++ members_of l) (step_is s.range after rows r ordered first)

  pub reach_more : (r : Datum × Fields) → first_row (rows_after s.range after rows) ≡ Some r → is_key r.0 ≡ true →
      Reaches s rows start (Some r.0) (now ++ moved r.0 (Some r.1) ∷ [])
  reach_more r first own = record {
    whole = goes_on r first ∙ sym (append_assoc now (moved r.0 (Some r.1) ∷ []) (members_of (rows_after s.range (Some r.0) rows)));
    last = last_more s.cursor now (moved r.0 (Some r.1));
    keyed = λ k. keyed_by r first own;
  }

  -- it ends where no document is left
  pub reach_all : bound_at start ≡ s.cursor → first_row (rows_after s.range after rows) ≡ None → now ≡ members_of (documents_after s rows)
  reach_all at none =
      let nothing : rows_after s.range after rows ≡ [] = empty (rows_after s.range after rows) none in
      sym (ap members_of (documents_are s start rows at ordered (reaches.keyed (none_keyed (first_row (rows_after s.range after rows)) none)))
      ∙ reaches.whole ∙ ap (λ (l : Rows). now ++ members_of l) nothing ∙ append-nil now)
    where
      empty : (l : Rows) → first_row l ≡ None → l ≡ []
      empty [] e = refl
      empty (x ∷ l) e = absurd cc

      none_keyed : (o : Option (Datum × Fields)) → o ≡ None → IfSome o (λ x. is_key x.0 ≡ true)
      none_keyed None e = tt
      none_keyed (Some x) e = absurd cc

  -- or where the next one finds no room
  pub reach_cut : bound_at start ≡ s.cursor → (r : Datum × Fields) → first_row (rows_after s.range after rows) ≡ Some r → is_key r.0 ≡ true →
      has_room (length now) (members_bytes now) (document_bytes (Some r.1)) ≡ false → IsCut s rows now (bound_at after)
  reach_cut at r first own full = record {
    next = moved r.0 (Some r.1);
    more = members_of (rows_after s.range (Some r.0) rows);
    whole = ap members_of (documents_are s start rows at ordered (keyed_by r first own)) ∙ goes_on r first;
    full = full;
    last = reaches.last;
  }
