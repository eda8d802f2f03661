-- What a search finds among notes whose indexes rise, and what a note put at its place does.
use Rattle.std.proofs.Common.{◌≡◌, ℕ, zero, suc, ◌+◌, ◌-◌, ◌<◌, ◌≤◌, ◌≢◌, List, [], ◌∷◌, length, get_or, if◌then◌else◌, Option, Some, None, Result, Ok, Err, IfOk, IfErr, refl, sym, ap, subst, arith}
use Rattle.std.specs.Prelude.{◌==◌}
use Rattle.std.specs.List.{insert}
use Rattle.std.specs.List.Sorted.{IsSearchInRange, IsBinarySearchResult, IsNonDecreasingBy}
use Rattle.std.specs.Ordering.{nat_cmp, ordering_index}
use Rattle.std.proofs.lemmas.Cmp.{ranked}
use Rattle.std.proofs.lemmas.List.Edits.{length-insert, get_or-insert_below, get_or-insert_at, get_or-insert_above}
use Rattle.std.proofs.lemmas.Bool.Decides.{nat_tests}
use Rattle.statement_views.specs.declared.sessions.StatementRecord.{StatementRecord}
use Rattle.session_book.specs.Statements.{IsRising, Holds, IsGapFor, with_index}

-- no note before that place has the index
abbrev NoneBefore : List StatementRecord → ℕ → ℕ → Type 0
NoneBefore notes index place = (j : ℕ) (d : StatementRecord) → j < place → (get_or notes j d).index ≢ index

none_absent : (notes : List StatementRecord) (index : ℕ) → NoneBefore notes index (length notes) → with_index index notes ≡ None
none_absent [] index none = refl
none_absent (noted ∷ notes) index none =
    grind (arith, nat_tests, none 0 noted (omega arith), none_absent notes index (λ j d lt. none (suc j) d (omega arith)))

-- the index is at that place
record HasIndex (notes : List StatementRecord) (index place : ℕ) : Type 0 where
  in_range : place < length notes
  is_it : (d : StatementRecord) → (get_or notes place d).index ≡ index

found_present : (notes : List StatementRecord) (index place : ℕ) (d : StatementRecord) → HasIndex notes index place → NoneBefore notes index place →
    with_index index notes ≡ Some (get_or notes place d)
found_present [] index place d holds none = absurd (omega (arith, holds.in_range))
found_present (noted ∷ notes) index zero d holds none = grind (arith, nat_tests, holds.is_it noted)
found_present (noted ∷ notes) index (suc place) d holds none =
    grind (
      arith,
      nat_tests,
      none 0 noted (omega arith),
      found_present notes index place d
          (record { in_range = omega (arith, holds.in_range); is_it = λ e. holds.is_it e }) (λ j e lt. none (suc j) e (omega arith)),
    )

found_inserted : (notes : List StatementRecord) (noted : StatementRecord) (place : ℕ) → NoneBefore notes noted.index place → (q : ℕ) →
    with_index q (insert notes place noted) ≡ (if noted.index == q then Some noted else with_index q notes)
found_inserted notes noted zero none q = refl
found_inserted [] noted (suc place) none q = refl
found_inserted (first ∷ notes) noted (suc place) none q =
    grind (arith, nat_tests, none 0 first (omega arith), found_inserted notes noted place (λ j d lt. none (suc j) d (omega arith)) q)

module _ (notes : List StatementRecord) (rising : IsRising notes) (index : ℕ) where
  comparisons_rise : IsNonDecreasingBy (λ (noted : StatementRecord). ordering_index (nat_cmp noted.index index)) notes
  comparisons_rise i j d le in_range =
      let rises : (get_or notes i d).index ≤ (get_or notes j d).index =
      grind (arith, rising i j d, λ (same : i ≡ j). ap (λ (k : ℕ). (get_or notes k d).index) same) in
      grind (arith, nat_tests)

  -- the note at its place is the first of its index
  found_at : (place : ℕ) (d : StatementRecord) → HasIndex notes index place → with_index index notes ≡ Some (get_or notes place d)
  found_at place d holds = found_present notes index place d holds (λ j e lt same. omega (arith, rising j place e lt holds.in_range, holds.is_it e))

  not_none : (found : Option StatementRecord) (noted : StatementRecord) → found ≡ Some noted → found ≢ None
  not_none found noted is none = let h : Some noted ≡ None = rw is at none in cc

  holds_there : (notes_is : List StatementRecord) → notes_is ≡ notes → (place : ℕ) → HasIndex notes index place → Holds notes index place
  holds_there [] is place holds = absurd (let h : place < length notes = holds.in_range in omega (arith, h, sym (ap (λ (ns : List StatementRecord). length ns) is)))
  holds_there (noted ∷ rest) is place holds =
      record { in_range = holds.in_range; first = λ d. found_at place d holds; some = not_none (with_index index notes) (get_or notes place noted) (found_at place noted holds) }

  -- where a note has the index, it is found
  pub holds_at : (place : ℕ) → place < length notes → ((d : StatementRecord) → (get_or notes place d).index ≡ index) → Holds notes index place
  holds_at place in_range is_it = holds_there notes refl place (record { in_range = in_range; is_it = is_it })

  -- a binary search by index ends at the note, or at the gap for it
  pub searched : (r : Result ℕ ℕ) → IsSearchInRange r (length notes) → IsBinarySearchResult (λ (noted : StatementRecord). nat_cmp noted.index index) notes r →
      record { found : IfOk r (Holds notes index); absent : IfErr r (IsGapFor notes index) }
  searched (Ok at) in_range equal =
      record { found = holds_there notes refl at (record { in_range = in_range; is_it = λ d. ranked _ index _ (sym (equal d)) }); absent = tt }
  searched (Err at) in_range parted = record {
    found = tt;
    absent = record {
      in_range = in_range;
      lesser = λ j d lt. ranked _ index _ (sym ((parted comparisons_rise).0 j d (omega arith) lt));
      greater = λ j d le lt. ranked _ index _ (sym ((parted comparisons_rise).1 j d le lt));
    };
  }

module _ (notes : List StatementRecord) (index place : ℕ) (gap : IsGapFor notes index place) where
  -- an index that has a gap is not found
  pub found_in_gap : with_index index notes ≡ None
  found_in_gap = none_absent notes index (λ j d lt same. grind (arith, gap.lesser j d, gap.greater j d))

-- a note put at its place is found, and others as before
pub found_after : (notes : List StatementRecord) (noted : StatementRecord) (place : ℕ) → IsGapFor notes noted.index place → (q : ℕ) →
    with_index q (insert notes place noted) ≡ (if noted.index == q then Some noted else with_index q notes)
found_after notes noted place gap q = found_inserted notes noted place (λ j d lt same. omega (arith, gap.lesser j d lt)) q

-- and the indexes still rise
pub rises_still : (notes : List StatementRecord) (noted : StatementRecord) (place : ℕ) → IsGapFor notes noted.index place → IsRising notes → IsRising (insert notes place noted)
rises_still notes noted place gap rising i j d lt in_range =
    let new = insert notes place noted in
    let length_new = length-insert notes place noted gap.in_range in
    let index = λ (n : StatementRecord). n.index in
    let below : (i : ℕ) → i < place → (get_or new i d).index ≡ (get_or notes i d).index =
    λ i lt. ap index (get_or-insert_below notes place noted d i lt gap.in_range) in
    let here : (i : ℕ) → i ≡ place → (get_or new i d).index ≡ noted.index = λ i is. rw is (ap index (get_or-insert_at notes place noted d gap.in_range)) in
    let above : (i : ℕ) → place < i → (get_or new i d).index ≡ (get_or notes (i - 1) d).index = λ i gt.
    subst (λ q. (get_or new q d).index ≡ (get_or notes (i - 1) d).index) {x = i - 1 + 1} (omega arith) (ap index (get_or-insert_above notes place noted d (i - 1) (omega arith) gap.in_range)) in
    grind (arith, below i, here i, above i, below j, here j, above j, rising i j d, rising i (j - 1) d, rising (i - 1) (j - 1) d, gap.lesser i d, gap.greater (j - 1) d)

-- after the first the indexes rise too
pub rest_rises : (first : StatementRecord) (rest : List StatementRecord) → IsRising (first ∷ rest) → IsRising rest
rest_rises first rest rising i j d lt in_range = rising (suc i) (suc j) d (omega (arith, lt)) (omega (arith, in_range))

-- a lesser index than the first goes before it
pub gap_before : (first : StatementRecord) (rest : List StatementRecord) (index : ℕ) → IsRising (first ∷ rest) → index < first.index → IsGapFor (first ∷ rest) index 0
gap_before first rest index rising low = record {
  in_range = omega arith;
  lesser = λ j d lt. absurd (omega (arith, lt));
  greater = λ j d le lt. greater j d lt;
}
  where
    greater : (j : ℕ) (d : StatementRecord) → j < length (first ∷ rest) → index < (get_or (first ∷ rest) j d).index
    greater zero d lt = low
    greater (suc j) d lt = omega (arith, low, rising 0 (suc j) d (omega arith) lt)

-- and a greater one to its place in the rest
pub gap_behind : (first : StatementRecord) (rest : List StatementRecord) (index place : ℕ) → first.index < index → IsGapFor rest index place → IsGapFor (first ∷ rest) index (suc place)
gap_behind first rest index place high gap = record {
  in_range = omega (arith, gap.in_range);
  lesser = lesser;
  greater = greater;
}
  where
    lesser : (j : ℕ) (d : StatementRecord) → j < suc place → (get_or (first ∷ rest) j d).index < index
    lesser zero d lt = high
    lesser (suc j) d lt = gap.lesser j d (omega (arith, lt))

    greater : (j : ℕ) (d : StatementRecord) → suc place ≤ j → j < length (first ∷ rest) → index < (get_or (first ∷ rest) j d).index
    greater zero d le lt = absurd (omega (arith, le))
    greater (suc j) d le lt = gap.greater j d (omega (arith, le)) (omega (arith, lt))

-- an index that none has is not that of the first, nor one in the rest
pub record IsApart (first : StatementRecord) (rest : List StatementRecord) (index : ℕ) : Type 0 where
  pub other : first.index ≢ index
  pub none : with_index index rest ≡ None

pub is_apart : (first : StatementRecord) (rest : List StatementRecord) (index : ℕ) → with_index index (first ∷ rest) ≡ None → IsApart first rest index
is_apart first rest index none = record { other = λ same. grind (arith, nat_tests, none, same); none = grind (arith, nat_tests, none) }
