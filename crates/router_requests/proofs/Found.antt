-- Where a binary search ends among requests whose counts rise.
use Rattle.std.proofs.Common.{◌≡◌, ◌≢◌, refl, ap, sym, ℕ, suc, ◌<◌, ◌≤◌, List, [], ◌∷◌, length, get_or, true, arith, nat_lt, Result, Ok, Err}
use Rattle.std.proofs.lemmas.Bool.{ltb-true}
use Rattle.std.proofs.lemmas.Bool.Decides.{nat_tests}
use Rattle.std.proofs.lemmas.Cmp.{ranked}
use Rattle.std.specs.List.Sorted.{IsBinarySearchResult, IsNonDecreasingBy, IsSearchInRange}
use Rattle.std.specs.Ordering.{nat_cmp, ordering_index}
use Rattle.std.specs.Prelude.{zero}
use Rattle.std.specs.Result.{MatchResult}
use Rattle.bson_model.proofs.Booleans.{both}
use Rattle.router_requests.specs.Order.{Held, rises, place_of}

-- each count is above the least
above : (least greatest : ℕ) (items : List Held) → rises least greatest items ≡ true → (j : ℕ) (d : Held) → j < length items → least < (get_or items j d).value.count
above least greatest [] e j d inside = absurd (omega (arith, inside))
above least greatest (q ∷ items) e zero d inside = ltb-true least q.value.count (both (nat_lt least q.value.count) (rises q.value.count greatest items) e).0
above least greatest (q ∷ items) e (suc j) d inside =
    let p = both (nat_lt least q.value.count) (rises q.value.count greatest items) e in
    omega (arith, ltb-true least q.value.count p.0, above q.value.count greatest items p.1 j d (omega (arith, inside)))

-- and above those before it
rising : (least greatest : ℕ) (items : List Held) → rises least greatest items ≡ true → (i j : ℕ) (d : Held) → i < j → j < length items
    → (get_or items i d).value.count < (get_or items j d).value.count
rising least greatest [] e i j d before inside = absurd (omega (arith, inside))
rising least greatest (q ∷ items) e i zero d before inside = absurd (omega (arith, before))
rising least greatest (q ∷ items) e zero (suc j) d before inside =
    above q.value.count greatest items (both (nat_lt least q.value.count) (rises q.value.count greatest items) e).1 j d (omega (arith, inside))
rising least greatest (q ∷ items) e (suc i) (suc j) d before inside =
    rising q.value.count greatest items (both (nat_lt least q.value.count) (rises q.value.count greatest items) e).1 i j d (omega (arith, before)) (omega (arith, inside))

-- at the place of the one with the count, or with none
abbrev pub Ends : (count : ℕ) → List Held → Result ℕ ℕ → Type 0
Ends count items r = MatchResult r (λ i. i ≡ place_of count items) (λ i. length items ≡ place_of count items)

module _ (count : ℕ) where
  -- the one with the count is at its place
  at_place : (least greatest : ℕ) (items : List Held) → rises least greatest items ≡ true → (i : ℕ) → i < length items → ((d : Held) → (get_or items i d).value.count ≡ count)
      → i ≡ place_of count items
  at_place least greatest [] e i inside is = absurd (omega (arith, inside))
  at_place least greatest (q ∷ items) e zero inside is = grind (arith, nat_tests, is q)
  at_place least greatest (q ∷ items) e (suc i) inside is =
      let p = both (nat_lt least q.value.count) (rises q.value.count greatest items) e in
      grind (
        arith,
        nat_tests,
        above q.value.count greatest items p.1 i q (omega (arith, inside)),
        is q,
        at_place q.value.count greatest items p.1 i (omega (arith, inside)) is,
      )

  -- where none has it, all are before its place
  no_place : (items : List Held) → ((j : ℕ) (d : Held) → j < length items → (get_or items j d).value.count ≢ count) → length items ≡ place_of count items
  no_place [] none = refl
  no_place (q ∷ items) none = grind (arith, nat_tests, none 0 q (omega arith), no_place items (λ j d lt. none (suc j) d (omega (arith, lt))))

  module _ (taken : ℕ) (items : List Held) (e : rises 0 taken items ≡ true) where
    comparisons_rise : IsNonDecreasingBy (λ (q : Held). ordering_index (nat_cmp q.value.count count)) items
    comparisons_rise i j d le inside =
        let rises : (get_or items i d).value.count ≤ (get_or items j d).value.count =
        grind (arith, rising 0 taken items e i j d, λ (same : i ≡ j). ap (λ (k : ℕ). (get_or items k d).value.count) same) in
        grind (arith, nat_tests)

    pub searched : (r : Result ℕ ℕ) → IsSearchInRange r (length items) → IsBinarySearchResult (λ (q : Held). nat_cmp q.value.count count) items r
        → Ends count items r
    searched (Ok i) inside equal = at_place 0 taken items e i inside (λ d. ranked _ count _ (sym (equal d)))
    searched (Err i) inside parted = no_place items (λ j d lt same.
        let lesser = λ (before : j < i). ranked _ count _ (sym ((parted comparisons_rise).0 j d (omega arith) before)) in
        let greater = λ (after : i ≤ j). ranked _ count _ (sym ((parted comparisons_rise).1 j d after lt)) in
        grind (arith, lesser, greater, same))
