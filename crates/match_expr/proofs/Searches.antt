-- Looking for a value in a list in the order of values.
use Rattle.std.proofs.Common.{◌≡◌, ℕ, ◌<◌, ◌+◌, List, drop, get_or, [], ◌∷◌, length, refl, sym, ap, ◌∙◌, arith, inl, inr, subst, true≢false, Less, Greater}
use Rattle.std.specs.Prelude.{Bool, true, false, ◌||◌, ◌&&◌, map, Result, Ok, Err, is_ok}
use Rattle.std.specs.List.{list_any, All}
use Rattle.std.specs.List.Sorted.{IsBinarySearchResult, IsPartitionPoint, IsPermutation, IsSearchInRange, IsSortedByKey}
use Rattle.std.specs.Cmp.{IsStrictWeakOrder}
use Rattle.std.specs.Ordering.{is_eq, is_lt}
use Rattle.std.proofs.lemmas.Bool.{cases_lt}
use Rattle.std.proofs.lemmas.List.Folds.{list_any_at, list_any_none}
use Rattle.std.proofs.lemmas.List.Sorted.{IsPermutation-map, list_any-IsPermutation, ranks_by, searchable_from_sorted}
use Rattle.bson_values.specs.declared.value.Value.{Value}
use Rattle.bson_values.specs.declared.value.Value.TheVariants.{Null}
use Rattle.bson_values.specs.View.{datum_of, items_of}
use Rattle.bson_values.specs.Tree.{Datum, Items, string_value, document_value, array_value, binary_value, object_id_value, boolean_value, date_value, null_value, int32_value, timestamp_value, int64_value, min_key_value, max_key_value}
use Rattle.query_model.specs.Holds.{Found, is_equal, is_null}
use Rattle.query_model.specs.Paths.{elements}
use Rattle.value_compare.specs.Order.{order, same_value}
use Rattle.value_model.proofs.Flat.{order_total}
use Rattle.match_expr.specs.Looks.{is_listed}
use Rattle.match_expr.proofs.ReadLoops.{next_value}

among_data : (test : Datum → Bool) (vs : List Value) → list_any (λ v. test (datum_of v)) vs ≡ list_any test (map (λ v. datum_of v) vs)
among_data test [] = refl
among_data test (v ∷ vs) = ap (λ (b : Bool). test (datum_of v) || b) (among_data test vs)

-- none is below the place, and none from it on
none_at : (x : Datum) (vs : List Value) (i : ℕ) → IsPartitionPoint (λ v. order (datum_of v) x ≡ Less) (λ v. order (datum_of v) x ≡ Greater) vs i →
    All (λ v. same_value (datum_of v) x ≡ false) vs
none_at x vs i apart k d below = elim (cases_lt k i) [
  | inl less ↦ ap is_eq (apart.0 k d (omega arith) less)
  | inr more ↦ ap is_eq (apart.1 k d more below)
]

searched : (x : Datum) (vs : List Value) (r : Result ℕ ℕ) → IsSortedByKey (λ v. datum_of v) order vs → IsSearchInRange r (length vs) →
    IsBinarySearchResult (λ v. order (datum_of v) x) vs r → is_ok r ≡ list_any (λ v. same_value (datum_of v) x) vs
searched x vs (Ok i) up range found = sym (list_any_at (λ v. same_value (datum_of v) x) vs i Null range (ap is_eq (found Null)))
searched x vs (Err i) up range apart =
    sym (list_any_none (λ v. same_value (datum_of v) x) vs (none_at x vs i (apart (searchable_from_sorted order_total (λ v. datum_of v) vs x up))))

pub found_by_halving : (x : Datum) (xs : List Datum) (vs : List Value) (r : Result ℕ ℕ) → IsSortedByKey (λ v. datum_of v) order vs →
    IsPermutation xs (map (λ v. datum_of v) vs) → IsSearchInRange r (length vs) → IsBinarySearchResult (λ v. order (datum_of v) x) vs r →
    is_ok r ≡ list_any (λ y. same_value y x) xs
found_by_halving x xs vs r up same range found =
    searched x vs r up range found ∙ among_data (λ y. same_value y x) vs
    ∙ sym (list_any-IsPermutation (λ y. same_value y x) xs (map (λ v. datum_of v) vs) same)

pub by_the_order : IsStrictWeakOrder (λ (v w : Value). is_lt (order (datum_of v) (datum_of w)))
by_the_order = ranks_by order_total (λ (v : Value). datum_of v)

-- the sorted copies are the operands
pub sorted_copies : (listed array : Items) (copies sorted : List Value) → listed ≡ array → map (λ v. datum_of v) copies ≡ elements array →
    IsPermutation copies sorted → IsPermutation (elements listed) (map (λ v. datum_of v) sorted)
sorted_copies listed array copies sorted same copied moved =
    subst (λ (xs : List Datum). IsPermutation xs (map (λ v. datum_of v) sorted)) (copied ∙ ap elements (sym same))
    (IsPermutation-map (λ v. datum_of v) copies sorted moved)

-- ---- equality with one of a list

null_alone : (x : Datum) → is_null x ≡ same_value x null_value
null_alone min_key_value = refl
null_alone null_value = refl
null_alone (int32_value z) = refl
null_alone (int64_value z) = refl
null_alone (string_value s) = refl
null_alone (document_value ms) = refl
null_alone (array_value ds) = refl
null_alone (binary_value n s) = refl
null_alone (object_id_value s) = refl
null_alone (boolean_value b) = refl
null_alone (date_value z) = refl
null_alone (timestamp_value n) = refl
null_alone max_key_value = refl

exchanged : (a b p q : Bool) → ((a || b) || (p || q)) ≡ ((a || p) || (b || q))
exchanged true b p q = refl
exchanged false true true q = refl
exchanged false true false q = refl
exchanged false false p q = refl

either : (p q : Datum → Bool) (ds : List Datum) → list_any (λ d. p d || q d) ds ≡ (list_any p ds || list_any q ds)
either p q [] = refl
either p q (d ∷ ds) = ap (λ (b : Bool). (p d || q d) || b) (either p q ds) ∙ exchanged (p d) (q d) (list_any p ds) (list_any q ds)

none_passes : (ds : List Datum) → list_any (λ d. false) ds ≡ false
none_passes [] = refl
none_passes (d ∷ ds) = none_passes ds

in_gap : (a b n m g : Bool) → ((a || b) || ((n || m) && g)) ≡ ((a || (n && g)) || (b || (m && g)))
in_gap true b n m g = refl
in_gap false true true m true = refl
in_gap false true true m false = refl
in_gap false true false m g = refl
in_gap false false true m true = refl
in_gap false false true true false = refl
in_gap false false true false false = refl
in_gap false false false m g = refl

-- Some candidate is among the operands, or null is and there is a gap: so some operand is equal.
equal_among : (xs cs : List Datum) (gap : Bool) →
    (list_any (λ d. list_any (λ x. same_value x d) xs) cs || (list_any (λ x. same_value x null_value) xs && gap))
    ≡ list_any (λ x. list_any (same_value x) cs || (is_null x && gap)) xs
equal_among [] cs gap = rw (none_passes cs) refl
equal_among (x ∷ xs) cs gap =
    let rest = list_any (λ y. same_value y null_value) xs in
    ap (λ (b : Bool). b || ((same_value x null_value || rest) && gap)) (either (same_value x) (λ d. list_any (λ y. same_value y d) xs) cs)
    ∙ in_gap (list_any (same_value x) cs) (list_any (λ d. list_any (λ y. same_value y d) xs) cs) (same_value x null_value) rest gap
    ∙ ap (λ (b : Bool). (list_any (same_value x) cs || (b && gap)) || (list_any (λ d. list_any (λ y. same_value y d) xs) cs || (rest && gap))) (sym (null_alone x))
    ∙ ap (λ (b : Bool). (list_any (same_value x) cs || (is_null x && gap)) || b) (equal_among xs cs gap)

pub equals_listed : (xs : Items) (found : Found) →
    (list_any (is_listed xs) found.candidates || (is_listed xs null_value && found.gap)) ≡ list_any (λ x. is_equal x found) (elements xs)
equals_listed xs found = equal_among (elements xs) found.candidates found.gap

-- of two tests the first holds
pub first_true : (answer a b whole : Bool) → answer ≡ true → answer ≡ a → (a || b) ≡ whole → answer ≡ whole
first_true answer true b whole holds first either_is = holds ∙ either_is
first_true answer false b whole holds first either_is = absurd (true≢false (sym holds ∙ first))

-- the first does not, so that the second decides
pub second_alone : (answer other a b whole : Bool) → answer ≡ false → answer ≡ a → other ≡ b → (a || b) ≡ whole → other ≡ whole
second_alone answer other true b whole fails first second either_is = absurd (true≢false (sym first ∙ fails))
second_alone answer other false b whole fails first second either_is = second ∙ either_is

-- the first of the values does not pass, so that one of the others does where one does
pub others_pass : (test : Datum → Bool) (vs : List Value) (i : ℕ) (v : Value) (whole : Bool) → i < length vs → v ≡ get_or vs i v →
    test (datum_of v) ≡ false → list_any test (elements (items_of (drop i vs))) ≡ whole → list_any test (elements (items_of (drop (i + 1) vs))) ≡ whole
others_pass test vs i v whole less is fails so_far =
    ap (λ (b : Bool). b || list_any test (elements (items_of (drop (i + 1) vs)))) (sym fails)
    ∙ ap (λ (xs : List Value). list_any test (elements (items_of xs))) (sym (next_value vs i v less is))
    ∙ so_far
