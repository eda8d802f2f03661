-- A document of which a query holds has its key in the query's span, and the spans ascend.
use Rattle.std.proofs.Common.{◌≡◌, inl, inr, List, [], ◌∷◌, ◌++◌, refl, sym, ap, subst, ◌∙◌, Ordering, Less, Equal, Greater, map, codes}
use Rattle.std.specs.Prelude.{Bool, true, false, cond, ◌&&◌, ◌||◌, ◌⊎◌, Option, Some, None, Ok, filter, if◌then◌else◌}
use Rattle.std.specs.BTreeSet.{insert_key}
use Rattle.std.specs.List.{AllByRecursion, list_any}
use Rattle.std.specs.List.Sorted.{IsStrictlySortedBy}
use Rattle.std.specs.Ordering.{is_eq, is_ge, is_gt, is_le, is_lt, match_ordering, ordering_reverse}
use Rattle.std.proofs.lemmas.Cmp.{alike_right}
use Rattle.std.proofs.lemmas.List.Kept.{IsStrictlySortedBy-filter}
use Rattle.bson_model.specs.Tree.{Datum, min_key_value, max_key_value, Fields, get}
use Rattle.value_model.specs.Keys.{Bound, min_bound, key_bound, max_bound, value_of_bound, order_bounds, is_key, Span, range_span, point_span, inside, inside_some, IsBefore, AreAscending, valid_key}
use Rattle.value_model.specs.Order.{order, same_value}
use Rattle.value_model.proofs.Flat.{order_total}
use Rattle.value_model.proofs.Spans.{same_is_key}
use Rattle.query_model.specs.Paths.{elements}
use Rattle.query_model.specs.Queries.{Query, no_clauses, clause, Clause, path_clause, connective_clause, and_connective, or_connective, nor_connective, Queries, no_queries, query, Tests, no_tests, test, Test, eq_test, gt_test, gte_test, lt_test, lte_test, in_test}
use Rattle.query_model.specs.Holds.{Found, found_at, alone, is_null, is_equal, holds, clause_holds, all_hold, tests_hold, test_holds}
use Rattle.query_model.specs.KeySpans.{KeyLimits, no_limits, is_id, with_key, with_keys, from_value, up_to_value, among_values, narrowed_by_test, narrowed_by_tests, narrowed_by, narrowed_by_clause, narrowed_by_all, is_within, range_between, point_at, spans_between, spans_of, span_of}
use Rattle.query_model.proofs.Entries.{equal_is, turned}
use Rattle.query_model.proofs.KeysAsked.{found_key, id_path, valid_from}
use Rattle.bson_model.proofs.Booleans.{both}

-- THE ORDER

from_is : (a b : Datum) → is_ge (order a b) ≡ true → is_le (order b a) ≡ true
from_is a b h = by (order a b) (order b a) (order_total.antisymm b a) h
  where
    by : (r s : Ordering) → s ≡ ordering_reverse r → is_ge r ≡ true → is_le s ≡ true
    by Less s e h = absurd cc
    by Equal s e h = ap is_le e
    by Greater s e h = ap is_le e

above_is : (r : Ordering) → is_gt r ≡ true → is_ge r ≡ true
above_is Less h = absurd cc
above_is Equal h = absurd cc
above_is Greater h = refl

less_is : (r : Ordering) → is_lt r ≡ true → r ≡ Less
less_is Less h = refl
less_is Equal h = absurd cc
less_is Greater h = absurd cc

less_turned : (a b : Datum) → order a b ≡ Less → order b a ≡ Greater
less_turned a b h = order_total.antisymm b a ∙ ap ordering_reverse h

equal_back : (a b : Datum) → order a b ≡ Equal → order b a ≡ Equal
equal_back a b h = order_total.antisymm b a ∙ ap ordering_reverse h

up_to_less : (a b c : Datum) → is_le (order a b) ≡ true → order b c ≡ Less → order a c ≡ Less
up_to_less a b c up less = by (order a b) refl up
  where
    by : (r : Ordering) → order a b ≡ r → is_le r ≡ true → order a c ≡ Less
    by Less is up = order_total.trans a b c is less
    by Equal is up = order_total.congr a b c is ∙ less
    by Greater is up = absurd cc

-- BOOLEANS

either : (a b : Bool) → (a || b) ≡ true → (a ≡ true) ⊎ (b ≡ true)
either true b h = inl refl
either false b h = inr h

or_true : (a b : Bool) → b ≡ true → (a || b) ≡ true
or_true true b h = refl
or_true false b h = h

or_first : (a b : Bool) → a ≡ true → (a || b) ≡ true
or_first a b h = ap (λ (x : Bool). x || b) h

or_false : (a : Bool) → (a || false) ≡ a
or_false true = refl
or_false false = refl

and_false : (a : Bool) → (a && false) ≡ false
and_false true = refl
and_false false = refl

swapped : (a b c : Bool) → (a || (b || c)) ≡ (b || (a || c))
swapped true true c = refl
swapped true false c = refl
swapped false true c = refl
swapped false false c = refl

once : (a c : Bool) → (a || c) ≡ (a || (a || c))
once true c = refl
once false c = refl

any_behind : {X : Type 0} (p : X → Bool) (xs ys : List X) → list_any p ys ≡ true → list_any p (xs ++ ys) ≡ true
any_behind p [] ys h = h
any_behind p (x ∷ xs) ys h = or_true (p x) (list_any p (xs ++ ys)) (any_behind p xs ys h)

any_before : {X : Type 0} (p : X → Bool) (xs ys : List X) → list_any p xs ≡ true → list_any p (xs ++ ys) ≡ true
any_before p [] ys h = absurd cc
any_before p (x ∷ xs) ys h = by (either (p x) (list_any p xs) h) (any_before p xs ys)
  where
    by : (p x ≡ true) ⊎ (list_any p xs ≡ true) → (list_any p xs ≡ true → list_any p (xs ++ ys) ≡ true) → (p x || list_any p (xs ++ ys)) ≡ true
    by (inl here) rest = or_first (p x) (list_any p (xs ++ ys)) here
    by (inr later) rest = or_true (p x) (list_any p (xs ++ ys)) (rest later)

-- KEYS IN ORDER

above_key : (low k : Datum) (ks : List Datum) → order low k ≡ Less → AllByRecursion (λ (y : Datum). order low y ≡ Less) ks →
    AllByRecursion (λ (y : Datum). order low y ≡ Less) (insert_key order ks k)
above_key low k [] less above = (less, tt)
above_key low k (x ∷ xs) less above = by (order k x) (above_key low k xs less above.1)
  where
    by : (r : Ordering) → AllByRecursion (λ (y : Datum). order low y ≡ Less) (insert_key order xs k) →
        AllByRecursion (λ (y : Datum). order low y ≡ Less) (match_ordering r (k ∷ x ∷ xs) (x ∷ xs) (x ∷ insert_key order xs k))
    by Less rest = (less, above)
    by Equal rest = above
    by Greater rest = (above.0, rest)

more_above : (k low : Datum) (ks : List Datum) → order k low ≡ Less → AllByRecursion (λ (y : Datum). order low y ≡ Less) ks →
    AllByRecursion (λ (y : Datum). order k y ≡ Less) ks
more_above k low [] less above = tt
more_above k low (x ∷ xs) less above = (order_total.trans k low x less above.0, more_above k low xs less above.1)

key_sorted : (k : Datum) (ks : List Datum) → IsStrictlySortedBy order ks → IsStrictlySortedBy order (insert_key order ks k)
unfolding IsStrictlySortedBy
key_sorted k [] sorted = (tt, tt)
key_sorted k (x ∷ xs) sorted = by (order k x) refl (key_sorted k xs sorted.1)
  where
    by : (r : Ordering) → order k x ≡ r → IsStrictlySortedBy order (insert_key order xs k) →
        IsStrictlySortedBy order (match_ordering r (k ∷ x ∷ xs) (x ∷ xs) (x ∷ insert_key order xs k))
    by Less is rest = ((is, more_above k x xs is sorted.0), sorted)
    by Equal is rest = sorted
    by Greater is rest = (above_key x k xs (turned order_total k x is) sorted.0, rest)

with_key_sorted : (ks : List Datum) (x : Datum) → IsStrictlySortedBy order ks → IsStrictlySortedBy order (with_key ks x)
with_key_sorted ks x sorted = by (is_key x)
  where
    by : (b : Bool) → IsStrictlySortedBy order (if b then insert_key order ks x else ks)
    by true = key_sorted x ks sorted
    by false = sorted

with_keys_sorted : (xs ks : List Datum) → IsStrictlySortedBy order ks → IsStrictlySortedBy order (with_keys ks xs)
with_keys_sorted [] ks sorted = sorted
with_keys_sorted (x ∷ xs) ks sorted = with_keys_sorted xs (with_key ks x) (with_key_sorted ks x sorted)

none_sorted : IsStrictlySortedBy order []
unfolding IsStrictlySortedBy
none_sorted = tt

-- THE SPANS ASCEND

abbrev pub AreSorted : Option (List Datum) → Type 0
AreSorted None = Unit {0}
AreSorted (Some keys) = IsStrictlySortedBy order keys

point_before : (x y : Datum) → order x y ≡ Less → IsBefore (point_span x) (point_span y)
point_before x y less a b in_x in_y =
    sym (order_total.congr x a b (equal_is (order x a) in_x))
    ∙ sym (alike_right order_total y b x (equal_is (order y b) in_y)) ∙ less

before_points : (x : Datum) (ks : List Datum) → AllByRecursion (λ (y : Datum). order x y ≡ Less) ks →
    AllByRecursion (IsBefore (point_span x)) (map point_span ks)
before_points x [] above = tt
before_points x (k ∷ ks) above = (point_before x k above.0, before_points x ks above.1)

pub points_ascend : (ks : List Datum) → IsStrictlySortedBy order ks → AreAscending (map point_span ks)
unfolding IsStrictlySortedBy
points_ascend [] sorted = tt
points_ascend (k ∷ ks) sorted = (before_points k ks sorted.0, points_ascend ks sorted.1)

range_before : (least : Bound) (k : Datum) → IsBefore (range_span (record { min = least; max = key_bound k })) (point_span k)
range_before least k a b in_range at =
    sym (alike_right order_total k b a (equal_is (order k b) at))
    ∙ less_is (order a k) (both (is_le (order (value_of_bound least) a)) (is_lt (order a k)) in_range).1

pub between_ascends : (least greatest : Bound) (with_greatest : Bool) → AreAscending (spans_between least greatest with_greatest)
between_ascends least greatest with_greatest =
    by (is_lt (order_bounds least greatest)) (with_greatest && is_le (order_bounds least greatest)) greatest
  where
    by : (r p : Bool) (g : Bound) → AreAscending ((if r then range_span (record { min = least; max = g }) ∷ [] else []) ++ (if p then point_at g else []))
    by true false g = (tt, tt)
    by false false g = tt
    by true true (key_bound k) = ((range_before least k, tt), (tt, tt))
    by false true (key_bound k) = (tt, tt)
    by true true min_bound = (tt, tt)
    by true true max_bound = (tt, tt)
    by false true min_bound = tt
    by false true max_bound = tt

pub spans_ascend : (limits : KeyLimits) → AreSorted limits.points → AreAscending (spans_of limits)
spans_ascend limits sorted = by limits.points sorted
  where
    by : (points : Option (List Datum)) → AreSorted points → AreAscending (elim points as (λ o. List Span) [
      | None ↦ spans_between limits.least limits.greatest limits.with_greatest
      | Some keys ↦ map point_span (filter (is_within limits.least limits.greatest limits.with_greatest) keys)
    ])
    by None sorted = between_ascends limits.least limits.greatest limits.with_greatest
    by (Some keys) sorted =
        points_ascend (filter (is_within limits.least limits.greatest limits.with_greatest) keys)
        (IsStrictlySortedBy-filter order (is_within limits.least limits.greatest limits.with_greatest) keys sorted)

from_sorted : (x : Datum) (limits : KeyLimits) → AreSorted limits.points → AreSorted (from_value x limits).points
from_sorted x limits sorted = by (is_key x && is_lt (order_bounds limits.least (key_bound x)))
  where
    by : (b : Bool) → AreSorted (if b then record { least = key_bound x; greatest = limits.greatest; with_greatest = limits.with_greatest; points = limits.points } else limits).points
    by true = sorted
    by false = sorted

up_to_sorted : (x : Datum) (with_it : Bool) (limits : KeyLimits) → AreSorted limits.points → AreSorted (up_to_value x with_it limits).points
up_to_sorted x with_it limits sorted = by (is_key x && is_gt (order_bounds limits.greatest (key_bound x)))
  where
    by : (b : Bool) → AreSorted (if b then record { least = limits.least; greatest = key_bound x; with_greatest = with_it; points = limits.points } else limits).points
    by true = sorted
    by false = sorted

among_sorted : (xs : List Datum) (limits : KeyLimits) → AreSorted limits.points → AreSorted (among_values xs limits).points
among_sorted xs limits sorted = by limits.points refl sorted
  where
    by : (points : Option (List Datum)) → limits.points ≡ points → AreSorted points → AreSorted (elim points as (λ o. KeyLimits) [
      | None ↦ record { least = limits.least; greatest = limits.greatest; with_greatest = limits.with_greatest; points = Some (with_keys [] xs) }
      | Some keys ↦ limits
    ]).points
    by None is none = with_keys_sorted xs [] none_sorted
    by (Some keys) is all = subst AreSorted (sym is) all

test_sorted : (t : Test) (limits : KeyLimits) → AreSorted limits.points → AreSorted (narrowed_by_test t limits).points
test_sorted (eq_test x) limits sorted = among_sorted (x ∷ []) limits sorted
test_sorted (in_test xs) limits sorted = among_sorted (elements xs) limits sorted
test_sorted (gt_test x) limits sorted = from_sorted x limits sorted
test_sorted (gte_test x) limits sorted = from_sorted x limits sorted
test_sorted (lt_test x) limits sorted = up_to_sorted x false limits sorted
test_sorted (lte_test x) limits sorted = up_to_sorted x true limits sorted
test_sorted other limits sorted = sorted

tests_sorted : (ts : Tests) (limits : KeyLimits) → AreSorted limits.points → AreSorted (narrowed_by_tests ts limits).points
tests_sorted no_tests limits sorted = sorted
tests_sorted (test first others) limits sorted = tests_sorted others (narrowed_by_test first limits) (test_sorted first limits sorted)

mutual
  pub query_sorted : (asked : Query) (limits : KeyLimits) → AreSorted limits.points → AreSorted (narrowed_by asked limits).points
  query_sorted no_clauses limits sorted = sorted
  query_sorted (clause first others) limits sorted = query_sorted others (narrowed_by_clause first limits) (clause_sorted first limits sorted)

  clause_sorted : (first : Clause) (limits : KeyLimits) → AreSorted limits.points → AreSorted (narrowed_by_clause first limits).points
  clause_sorted (path_clause path tests) limits sorted = by (is_id path)
    where
      by : (b : Bool) → AreSorted (if b then narrowed_by_tests tests limits else limits).points
      by true = tests_sorted tests limits sorted
      by false = sorted
  clause_sorted (connective_clause and_connective inner) limits sorted = queries_sorted inner limits sorted
  clause_sorted (connective_clause or_connective inner) limits sorted = sorted
  clause_sorted (connective_clause nor_connective inner) limits sorted = sorted

  queries_sorted : (asked : Queries) (limits : KeyLimits) → AreSorted limits.points → AreSorted (narrowed_by_all asked limits).points
  queries_sorted no_queries limits sorted = sorted
  queries_sorted (query first others) limits sorted = queries_sorted others (narrowed_by first limits) (query_sorted first limits sorted)

pub span_ascends : (asked : Query) → AreAscending (span_of asked)
span_ascends asked = spans_ascend (narrowed_by asked no_limits) (query_sorted asked no_limits tt)

-- WHAT HOLDS OF A KEY IS INSIDE

module _ (key : Datum) (own : is_key key ≡ true) where
  abbrev has : List Datum → Bool
  has ks = list_any (λ (k : Datum). same_value k key) ks

  abbrev IsNamed : Option (List Datum) → Type 0
  IsNamed None = Unit {0}
  IsNamed (Some ks) = has ks ≡ true

  pub record Fits (limits : KeyLimits) : Type 0 where
    pub within : is_within limits.least limits.greatest limits.with_greatest key ≡ true
    pub named : IsNamed limits.points

  has_inserted : (x : Datum) (ks : List Datum) → has (insert_key order ks x) ≡ (same_value x key || has ks)
  has_inserted x [] = refl
  has_inserted x (k ∷ ks) = by (order x k) refl (has_inserted x ks)
    where
      by : (r : Ordering) → order x k ≡ r → has (insert_key order ks x) ≡ (same_value x key || has ks) →
          has (match_ordering r (x ∷ k ∷ ks) (k ∷ ks) (k ∷ insert_key order ks x)) ≡ (same_value x key || (same_value k key || has ks))
      by Less is rest = refl
      by Equal is rest =
          once (same_value k key) (has ks)
          ∙ ap (λ (b : Bool). b || (same_value k key || has ks)) (ap is_eq (sym (order_total.congr x k key is)))
      by Greater is rest = ap (λ (b : Bool). same_value k key || b) rest ∙ swapped (same_value k key) (same_value x key) (has ks)

  -- a key that is there stays, and one that comes is there
  has_with : (ks : List Datum) (x : Datum) → (same_value x key || has ks) ≡ true → has (with_key ks x) ≡ true
  has_with ks x h = by (is_key x) refl
    where
      differs : is_key x ≡ false → same_value x key ≡ true → true ≡ false
      differs none same = sym own ∙ sym (same_is_key x key same) ∙ none

      by : (b : Bool) → is_key x ≡ b → has (if b then insert_key order ks x else ks) ≡ true
      by true is = has_inserted x ks ∙ h
      by false is = at (either (same_value x key) (has ks) h)
        where
          at : (same_value x key ≡ true) ⊎ (has ks ≡ true) → has ks ≡ true
          at (inl same) = let e = differs is same in absurd cc
          at (inr there) = there

  has_all : (xs ks : List Datum) → (has xs || has ks) ≡ true → has (with_keys ks xs) ≡ true
  has_all [] ks h = h
  has_all (x ∷ xs) ks h = has_all xs (with_key ks x) (by (either (same_value x key || has xs) (has ks) h))
    where
      from_x : (same_value x key || has ks) ≡ true → (has xs || has (with_key ks x)) ≡ true
      from_x there = or_true (has xs) (has (with_key ks x)) (has_with ks x there)

      at : (same_value x key ≡ true) ⊎ (has xs ≡ true) → (has xs || has (with_key ks x)) ≡ true
      at (inl same) = from_x (or_first (same_value x key) (has ks) same)
      at (inr later) = or_first (has xs) (has (with_key ks x)) later

      by : ((same_value x key || has xs) ≡ true) ⊎ (has ks ≡ true) → (has xs || has (with_key ks x)) ≡ true
      by (inl first) = at (either (same_value x key) (has xs) first)
      by (inr there) = from_x (or_true (same_value x key) (has ks) there)

  from_fits : (x : Datum) (limits : KeyLimits) → is_ge (order key x) ≡ true → Fits limits → Fits (from_value x limits)
  from_fits x limits above fits = by (is_key x && is_lt (order_bounds limits.least (key_bound x)))
    where
      high : Bool
      high = is_gt (order_bounds limits.greatest (key_bound key)) || (limits.with_greatest && is_eq (order_bounds limits.greatest (key_bound key)))

      by : (b : Bool) → Fits (if b then record { least = key_bound x; greatest = limits.greatest; with_greatest = limits.with_greatest; points = limits.points } else limits)
      by true = record {
        within =
            let parts = both (is_le (order_bounds limits.least (key_bound key))) high fits.within in
            ap (λ (b : Bool). b && high) (from_is key x above) ∙ parts.1;
        named = fits.named;
      }
      by false = fits

  up_to_fits : (x : Datum) (with_it : Bool) (limits : KeyLimits) → (is_gt (order x key) || (with_it && is_eq (order x key))) ≡ true → Fits limits →
      Fits (up_to_value x with_it limits)
  up_to_fits x with_it limits below fits = by (is_key x && is_gt (order_bounds limits.greatest (key_bound x)))
    where
      by : (b : Bool) → Fits (if b then record { least = limits.least; greatest = key_bound x; with_greatest = with_it; points = limits.points } else limits)
      by true = record {
        within =
            let parts = both (is_le (order_bounds limits.least (key_bound key))) _ fits.within in
            ap (λ (b : Bool). b && (is_gt (order x key) || (with_it && is_eq (order x key)))) parts.0 ∙ below;
        named = fits.named;
      }
      by false = fits

  among_fits : (xs : List Datum) (limits : KeyLimits) → has xs ≡ true → Fits limits → Fits (among_values xs limits)
  among_fits xs limits there fits = by limits.points refl
    where
      by : (points : Option (List Datum)) → limits.points ≡ points → Fits (elim points as (λ o. KeyLimits) [
        | None ↦ record { least = limits.least; greatest = limits.greatest; with_greatest = limits.with_greatest; points = Some (with_keys [] xs) }
        | Some keys ↦ limits
      ])
      by None is = record { within = fits.within; named = has_all xs [] (or_first (has xs) false there) }
      by (Some keys) is = fits

  -- what a test says of a key that is alone
  compared : (a b : Bool) → ((a && b) || false) ≡ true → b ≡ true
  compared true true h = refl
  compared true false h = absurd cc
  compared false b h = absurd cc

  compared_or_null : (a b null : Bool) → (((a && b) || false) || (null && false)) ≡ true → b ≡ true
  compared_or_null true true null h = refl
  compared_or_null true false true h = absurd cc
  compared_or_null true false false h = absurd cc
  compared_or_null false b true h = absurd cc
  compared_or_null false b false h = absurd cc

  equal_alone : (x : Datum) → is_equal x (alone key) ≡ same_value x key
  equal_alone x =
      ap (λ (b : Bool). (same_value x key || false) || b) (and_false (is_null x)) ∙ or_false (same_value x key || false) ∙ or_false (same_value x key)

  equals_one : (xs : List Datum) → list_any (λ (x : Datum). is_equal x (alone key)) xs ≡ has xs
  equals_one [] = refl
  equals_one (x ∷ xs) =
      ap (λ (b : Bool). b || list_any (λ (y : Datum). is_equal y (alone key)) xs) (equal_alone x) ∙ ap (λ (b : Bool). same_value x key || b) (equals_one xs)

  below_it : (x : Datum) → is_lt (order key x) ≡ true → (is_gt (order x key) || (false && is_eq (order x key))) ≡ true
  below_it x below = ap (λ (r : Ordering). is_gt r || (false && is_eq r)) (less_turned key x (less_is (order key x) below))

  up_to_it : (x : Datum) → is_le (order key x) ≡ true → (is_gt (order x key) || (true && is_eq (order x key))) ≡ true
  up_to_it x up = by (order key x) (order x key) (order_total.antisymm x key) up
    where
      by : (r s : Ordering) → s ≡ ordering_reverse r → is_le r ≡ true → (is_gt s || (true && is_eq s)) ≡ true
      by Less s e h = ap (λ (t : Ordering). is_gt t || (true && is_eq t)) e
      by Equal s e h = ap (λ (t : Ordering). is_gt t || (true && is_eq t)) e
      by Greater s e h = absurd cc

  test_fits : (t : Test) (limits : KeyLimits) → test_holds t (alone key) ≡ true → Fits limits → Fits (narrowed_by_test t limits)
  test_fits (eq_test x) limits h fits = among_fits (x ∷ []) limits (or_first (same_value x key) false (sym (equal_alone x) ∙ h)) fits
  test_fits (in_test xs) limits h fits = among_fits (elements xs) limits (sym (equals_one (elements xs)) ∙ h) fits
  test_fits (gt_test x) limits h fits = from_fits x limits (above_is (order key x) (compared _ (is_gt (order key x)) h)) fits
  test_fits (gte_test x) limits h fits = from_fits x limits (compared_or_null _ (is_ge (order key x)) (is_null x) h) fits
  test_fits (lt_test x) limits h fits = up_to_fits x false limits (below_it x (compared _ (is_lt (order key x)) h)) fits
  test_fits (lte_test x) limits h fits = up_to_fits x true limits (up_to_it x (compared_or_null _ (is_le (order key x)) (is_null x) h)) fits
  test_fits other limits h fits = fits

  tests_fit : (ts : Tests) (limits : KeyLimits) → tests_hold ts (alone key) ≡ true → Fits limits → Fits (narrowed_by_tests ts limits)
  tests_fit no_tests limits h fits = fits
  tests_fit (test first others) limits h fits =
      let parts = both (test_holds first (alone key)) (tests_hold others (alone key)) h in
      tests_fit others (narrowed_by_test first limits) parts.1 (test_fits first limits parts.0 fits)

  module _ (document : Fields) (found : found_at (codes "_id" ∷ []) document ≡ alone key) where
    mutual
      pub query_fits : (asked : Query) (limits : KeyLimits) → holds asked document ≡ true → Fits limits → Fits (narrowed_by asked limits)
      query_fits no_clauses limits h fits = fits
      query_fits (clause first others) limits h fits =
          let parts = both (clause_holds first document) (holds others document) h in
          query_fits others (narrowed_by_clause first limits) parts.1 (clause_fits first limits parts.0 fits)

      clause_fits : (first : Clause) (limits : KeyLimits) → clause_holds first document ≡ true → Fits limits → Fits (narrowed_by_clause first limits)
      clause_fits (path_clause path tests) limits h fits = by (is_id path) refl
        where
          by : (b : Bool) → is_id path ≡ b → Fits (if b then narrowed_by_tests tests limits else limits)
          by true is =
              let at = ap (λ (p : _). found_at p document) (id_path path is) ∙ found in
              tests_fit tests limits (ap (λ (f : Found). tests_hold tests f) (sym at) ∙ h) fits
          by false is = fits
      clause_fits (connective_clause and_connective inner) limits h fits = queries_fit inner limits h fits
      clause_fits (connective_clause or_connective inner) limits h fits = fits
      clause_fits (connective_clause nor_connective inner) limits h fits = fits

      queries_fit : (asked : Queries) (limits : KeyLimits) → all_hold asked document ≡ true → Fits limits → Fits (narrowed_by_all asked limits)
      queries_fit no_queries limits h fits = fits
      queries_fit (query first others) limits h fits =
          let parts = both (holds first document) (all_hold others document) h in
          queries_fit others (narrowed_by first limits) parts.1 (query_fits first limits parts.0 fits)

  -- WHAT FITS IS INSIDE

  none_at_ends : (b : Bound) → order (value_of_bound b) key ≡ Equal → (k : Datum) × (b ≡ key_bound k)
  none_at_ends (key_bound k) at = (k, refl)
  none_at_ends min_bound at = let e : true ≡ false = sym own ∙ sym (same_is_key min_key_value key (ap is_eq at)) in absurd cc
  none_at_ends max_bound at = let e : true ≡ false = sym own ∙ sym (same_is_key max_key_value key (ap is_eq at)) in absurd cc

  in_range : (least greatest : Bound) → is_le (order_bounds least (key_bound key)) ≡ true → order (value_of_bound greatest) key ≡ Greater →
      inside_some (range_between least greatest) key ≡ true
  in_range least greatest low high = by (is_lt (order_bounds least greatest)) refl
    where
      above : order key (value_of_bound greatest) ≡ Less
      above = turned order_total (value_of_bound greatest) key high

      is_range : order_bounds least greatest ≡ Less
      is_range = up_to_less (value_of_bound least) key (value_of_bound greatest) low above

      by : (b : Bool) → is_lt (order_bounds least greatest) ≡ b → inside_some (if b then range_span (record { min = least; max = greatest }) ∷ [] else []) key ≡ true
      by true is = rw (low, above) refl
      by false is = let e : true ≡ false = sym (ap is_lt is_range) ∙ is in absurd cc

  at_end : (least greatest : Bound) → is_le (order_bounds least (key_bound key)) ≡ true → order (value_of_bound greatest) key ≡ Equal →
      inside_some (if true && is_le (order_bounds least greatest) then point_at greatest else []) key ≡ true
  at_end least greatest low at =
      let is_end = none_at_ends greatest at in
      let up : is_le (order_bounds least greatest) ≡ true =
      ap is_le (alike_right order_total (value_of_bound greatest) key (value_of_bound least) at) ∙ low in
      let same : same_value is_end.0 key ≡ true = ap (λ (b : Bound). is_eq (order (value_of_bound b) key)) (sym is_end.1) ∙ ap is_eq at in
      ap (λ (b : Bool). inside_some (if b then point_at greatest else []) key) up
      ∙ ap (λ (b : Bound). inside_some (point_at b) key) is_end.1
      ∙ or_first (same_value is_end.0 key) false same

  between_inside : (least greatest : Bound) (with_greatest : Bool) → is_within least greatest with_greatest key ≡ true →
      inside_some (spans_between least greatest with_greatest) key ≡ true
  between_inside least greatest with_greatest within =
      let parts = both (is_le (order_bounds least (key_bound key))) _ within in
      by (order (value_of_bound greatest) key) with_greatest refl refl parts.0 parts.1
    where
      end : Bool → List Span
      end w = if w && is_le (order_bounds least greatest) then point_at greatest else []

      by : (r : Ordering) (w : Bool) → order (value_of_bound greatest) key ≡ r → with_greatest ≡ w → is_le (order_bounds least (key_bound key)) ≡ true →
          (is_gt (order (value_of_bound greatest) key) || (with_greatest && is_eq (order (value_of_bound greatest) key))) ≡ true →
          inside_some (range_between least greatest ++ end with_greatest) key ≡ true
      by Greater w is with_it low high =
          any_before (λ (s : Span). inside s key) (range_between least greatest) (end with_greatest) (in_range least greatest low is)
      by Equal true is with_it low high =
          any_behind (λ (s : Span). inside s key) (range_between least greatest) (end with_greatest)
          (ap (λ (w : Bool). inside_some (end w) key) with_it ∙ at_end least greatest low is)
      by Equal false is with_it low high =
          let e : false ≡ true = sym (ap (λ (r : Ordering). is_gt r || (with_greatest && is_eq r)) is ∙ ap (λ (w : Bool). w && true) with_it) ∙ high in absurd cc
      by Less w is with_it low high =
          let e : false ≡ true = sym (ap (λ (r : Ordering). is_gt r || (with_greatest && is_eq r)) is ∙ and_false with_greatest) ∙ high in absurd cc

  within_alike : (least greatest : Bound) (with_greatest : Bool) (k : Datum) → same_value k key ≡ true →
      is_within least greatest with_greatest k ≡ is_within least greatest with_greatest key
  within_alike least greatest with_greatest k same =
      let e = equal_is (order k key) same in
      rw (alike_right order_total k key (value_of_bound least) e, alike_right order_total k key (value_of_bound greatest) e) refl

  points_inside : (within : Datum → Bool) → ((k : Datum) → same_value k key ≡ true → within k ≡ true) → (ks : List Datum) → has ks ≡ true →
      inside_some (map point_span (filter within ks)) key ≡ true
  points_inside within passes [] h = absurd cc
  points_inside within passes (k ∷ ks) h = by (either (same_value k key) (has ks) h) (points_inside within passes ks)
    where
      more : (b : Bool) → inside_some (map point_span (filter within ks)) key ≡ true →
          inside_some (map point_span (cond b (k ∷ filter within ks) (filter within ks))) key ≡ true
      more true rest = or_true (same_value k key) (inside_some (map point_span (filter within ks)) key) rest
      more false rest = rest

      by : (same_value k key ≡ true) ⊎ (has ks ≡ true) → (has ks ≡ true → inside_some (map point_span (filter within ks)) key ≡ true) →
          inside_some (map point_span (cond (within k) (k ∷ filter within ks) (filter within ks))) key ≡ true
      by (inl same) rest =
          ap (λ (b : Bool). inside_some (map point_span (cond b (k ∷ filter within ks) (filter within ks))) key) (passes k same)
          ∙ or_first (same_value k key) (inside_some (map point_span (filter within ks)) key) same
      by (inr later) rest = more (within k) (rest later)

  pub fits_inside : (limits : KeyLimits) → Fits limits → inside_some (spans_of limits) key ≡ true
  fits_inside limits fits = by limits.points fits.named
    where
      by : (points : Option (List Datum)) → IsNamed points → inside_some (elim points as (λ o. List Span) [
        | None ↦ spans_between limits.least limits.greatest limits.with_greatest
        | Some keys ↦ map point_span (filter (is_within limits.least limits.greatest limits.with_greatest) keys)
      ]) key ≡ true
      by None named = between_inside limits.least limits.greatest limits.with_greatest fits.within
      by (Some keys) named =
          points_inside (is_within limits.least limits.greatest limits.with_greatest)
          (λ k same. within_alike limits.least limits.greatest limits.with_greatest k same ∙ fits.within) keys named

  least_of_all : is_within min_bound max_bound false key ≡ true
  least_of_all = by key own
    where
      by : (d : Datum) → is_key d ≡ true → is_within min_bound max_bound false d ≡ true
      by min_key_value h = absurd (cc h)
      by max_key_value h = absurd (cc h)
      by d h = refl

  pub any_fits : Fits no_limits
  any_fits = record { within = least_of_all; named = tt }

-- what narrows limits that a key fits leaves limits that it fits, where the query holds
pub document_fits : (asked : Query) (document : Fields) (key : Datum) (own : is_key key ≡ true) → get (codes "_id") document ≡ Some key →
    (limits : KeyLimits) → holds asked document ≡ true → Fits key own limits → Fits key own (narrowed_by asked limits)
document_fits asked document key own is limits h fits = query_fits key own document (found_key document key is own) asked limits h fits

pub keys_in_span : (asked : Query) (document : Fields) (key : Datum) → valid_key document ≡ Ok key → holds asked document ≡ true →
    inside_some (span_of asked) key ≡ true
keys_in_span asked document key valid h =
    let kept = valid_from (get (codes "_id") document) key valid in
    fits_inside key kept.1 (narrowed_by asked no_limits) (document_fits asked document key kept.1 kept.0 no_limits h (any_fits key kept.1))
