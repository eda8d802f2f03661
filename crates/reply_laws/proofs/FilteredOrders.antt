-- A list in another order has the same elements that pass a test.
use Rattle.std.proofs.Common.{◌≡◌, ℕ, zero, suc, ◌<◌, List, [], ◌∷◌, ◌++◌, length, refl, sym, ap, subst, ◌∙◌, arith, append-nil}
use Rattle.std.specs.Prelude.{Bool, true, false, cond, not, filter, IsPermutation, slice_index_or, slice_set}
use Rattle.std.specs.List.{swap}
use Rattle.std.proofs.lemmas.List.Edits.{swap_is}
use Rattle.std.proofs.lemmas.List.Elements.{filter-append}
use Rattle.std.proofs.lemmas.List.Sorted.{IsPermutation-refl, IsPermutation-cons, IsPermutation-trans, IsPermutation-append_left, IsPermutation-filter_both, IsPermutation-keeps, IsPermutation-middle}

module _ {X : Type 0} (test : X → Bool) where
  abbrev Passes : List X → List X → Type 0
  Passes xs ys = IsPermutation (filter test xs) (filter test ys)

  under : (x : X) (xs ys : List X) → Passes xs ys → Passes (x ∷ xs) (x ∷ ys)
  under x xs ys passes = by_test (test x)
    where
      by_test : (b : Bool) → IsPermutation (cond b (x ∷ filter test xs) (filter test xs)) (cond b (x ∷ filter test ys) (filter test ys))
      by_test true = IsPermutation-cons x (filter test xs) (filter test ys) passes
      by_test false = passes

  flipped : (x y : X) (xs : List X) → Passes (x ∷ y ∷ xs) (y ∷ x ∷ xs)
  flipped x y xs = by_tests (test x) (test y)
    where
      by_tests : (b c : Bool) → IsPermutation (cond b (x ∷ cond c (y ∷ filter test xs) (filter test xs)) (cond c (y ∷ filter test xs) (filter test xs)))
          (cond c (y ∷ cond b (x ∷ filter test xs) (filter test xs)) (cond b (x ∷ filter test xs) (filter test xs)))
      by_tests true true = IsPermutation-middle (x ∷ []) y (filter test xs)
      by_tests true false = IsPermutation-refl (x ∷ filter test xs)
      by_tests false true = IsPermutation-refl (y ∷ filter test xs)
      by_tests false false = IsPermutation-refl (filter test xs)

  through : (xs ys zs : List X) → Passes xs ys → Passes ys zs → Passes xs zs
  through xs ys zs first second = IsPermutation-trans (filter test xs) (filter test ys) (filter test zs) first second

  -- one in the place of another
  put_in : (v : X) (xs : List X) (i : ℕ) (d : X) → i < length xs → Passes (v ∷ xs) (slice_index_or xs i d ∷ slice_set xs i v)
  put_in v [] i d less = absurd (omega arith)
  put_in v (x ∷ xs) zero d less = flipped v x xs
  put_in v (x ∷ xs) (suc i) d less =
      let inside : i < length xs = omega arith in
      through (v ∷ x ∷ xs) (x ∷ v ∷ xs) (slice_index_or xs i d ∷ x ∷ slice_set xs i v) (flipped v x xs)
      (through (x ∷ v ∷ xs) (x ∷ slice_index_or xs i d ∷ slice_set xs i v) (slice_index_or xs i d ∷ x ∷ slice_set xs i v)
      (under x (v ∷ xs) (slice_index_or xs i d ∷ slice_set xs i v) (put_in v xs i d inside)) (flipped x (slice_index_or xs i d) (slice_set xs i v)))

  swapped : (xs : List X) (i j : ℕ) → i < length xs → j < length xs → Passes xs (swap xs i j)
  swapped [] i j p q = absurd (omega arith)
  swapped (x ∷ xs) zero zero p q = IsPermutation-refl (filter test (x ∷ xs))
  swapped (x ∷ xs) zero (suc j) p q = put_in x xs j x (omega arith)
  swapped (x ∷ xs) (suc i) zero p q = put_in x xs i x (omega arith)
  swapped (x ∷ xs) (suc i) (suc j) p q =
      let first : i < length xs = omega arith in
      let second : j < length xs = omega arith in
      subst (λ (l : List X). Passes (x ∷ xs) (x ∷ l)) (sym (swap_is xs i j x first second)) (under x xs (swap xs i j) (swapped xs i j first second))

  pub filter_permutes : (xs ys : List X) → IsPermutation xs ys → IsPermutation (filter test xs) (filter test ys)
  filter_permutes xs ys permutes =
      IsPermutation-keeps xs (λ l. Passes xs l) (IsPermutation-refl (filter test xs))
      (λ l i j p q so_far. through xs l (swap l i j) so_far (swapped l i j p q)) ys permutes

  -- those that pass, and then those that don't

  abbrev fails : X → Bool
  fails x = not (test x)

  none_passes : (xs : List X) → filter test (filter fails xs) ≡ []
  none_passes [] = refl
  none_passes (x ∷ xs) = by_test (test x) refl (none_passes xs)
    where
      by_test : (b : Bool) → test x ≡ b → filter test (filter fails xs) ≡ [] → filter test (cond (not b) (x ∷ filter fails xs) (filter fails xs)) ≡ []
      by_test true is rest = rest
      by_test false is rest = ap (λ (c : Bool). cond c (x ∷ filter test (filter fails xs)) (filter test (filter fails xs))) is ∙ rest

  -- some order of those that pass comes before the others
  pub others_behind : (xs front : List X) → IsPermutation (filter test xs) front → IsPermutation xs (front ++ filter fails xs)
  others_behind xs front permutes =
      IsPermutation-trans xs (filter test xs ++ filter fails xs) (front ++ filter fails xs) (IsPermutation-filter_both test fails (λ x. refl) xs)
      (IsPermutation-append_left (filter fails xs) (filter test xs) front permutes)

  pub passed_again : (xs front : List X) → filter test (front ++ filter fails xs) ≡ filter test front
  passed_again xs front = filter-append test front (filter fails xs) ∙ ap (λ l. filter test front ++ l) (none_passes xs) ∙ append-nil (filter test front)

-- one element has one order
pub one_order : {X : Type 0} (x : X) (ys : List X) → IsPermutation (x ∷ []) ys → ys ≡ x ∷ []
one_order {X = X} x ys permutes = IsPermutation-keeps (x ∷ []) (λ l. l ≡ x ∷ []) refl step ys permutes
  where
    by_places : (i j : ℕ) → i < 1 → j < 1 → swap (x ∷ []) i j ≡ x ∷ []
    by_places zero zero p q = refl
    by_places zero (suc j) p q = absurd (omega arith)
    by_places (suc i) j p q = absurd (omega arith)

    step : (l : List X) (i j : ℕ) → i < length l → j < length l → l ≡ x ∷ [] → swap l i j ≡ x ∷ []
    step l i j p q is =
        let long : length l ≡ 1 = ap length is in
        ap (λ (k : List X). swap k i j) is ∙ by_places i j (omega arith) (omega arith)

pub no_order : {X : Type 0} (ys : List X) → IsPermutation [] ys → ys ≡ []
no_order {X = X} ys permutes = IsPermutation-keeps [] (λ (l : List X). l ≡ []) refl
    (λ l i j p q is. let long : length l ≡ 0 = ap length is in absurd (omega arith)) ys permutes
