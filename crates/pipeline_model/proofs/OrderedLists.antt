-- Lists in order by a test that is total: each list has an ordered permutation, and what parts leave out after their first n
-- comes after the first n of the parts together.
use Rattle.std.proofs.Common.{◌≡◌, ℕ, zero, suc, ◌+◌, ◌≤◌, ◌<◌, List, [], ◌∷◌, ◌++◌, length, get_or, take, refl, sym, ap, subst, arith}
use Rattle.std.specs.Prelude.{Bool, true, false, cond, count_by, IsPermutation, IsSortedBy}
use Rattle.std.specs.List.{AllByRecursion}
use Rattle.std.proofs.lemmas.List.Sums.{sum_by-cons}
use Rattle.std.proofs.lemmas.List.Sorted.{IsPermutation-refl, IsPermutation-trans, IsPermutation-cons, IsPermutation-middle}
use native.Mathlib.Numerals.{add-one}
use Rattle.pipeline_model.proofs.EachElement.{every_append, every_left, every_right, every_permuted, every_implies}

module _ {X : Type 0} (lt : X → X → Bool)
    (chain : (x y z : X) → lt y x ≡ false → lt z y ≡ false → lt z x ≡ false) (one_way : (x y : X) → lt y x ≡ true → lt x y ≡ false) where
  -- none of the others comes before x
  abbrev pub Above : X → List X → Type 0
  Above x xs = AllByRecursion (λ y. lt y x ≡ false) xs

  abbrev pub Up : List X → Type 0
  Up [] = Unit {0}
  Up (x ∷ xs) = Above x xs × Up xs

  above_next : (x y : X) (ys : List X) → lt y x ≡ false → Above y ys → Above x ys
  above_next x y ys h k = every_implies (λ z. lt z y ≡ false) (λ z. lt z x ≡ false) (λ z e. chain x y z h e) ys k

  up_if_adjacent : (xs : List X) → ((k : ℕ) (d : X) → suc k < length xs → lt (get_or xs (suc k) d) (get_or xs k d) ≡ false) → Up xs
  up_if_adjacent [] h = tt
  up_if_adjacent (x ∷ []) h = (tt, tt)
  up_if_adjacent (x ∷ y ∷ ys) h =
      let first : lt y x ≡ false = h 0 x (omega arith) in
      let rest : Up (y ∷ ys) = up_if_adjacent (y ∷ ys) (λ k d less. h (suc k) d (omega arith)) in
      ((first, above_next x y ys first rest.0), rest)

  pub up_from_sorted : (xs : List X) → IsSortedBy lt xs → Up xs
  up_from_sorted xs h = up_if_adjacent xs (λ k d less. subst (λ n. lt (get_or xs n d) (get_or xs k d) ≡ false) (add-one k) (h k d (omega arith) (omega arith)))

  adjacent : (xs : List X) → Up xs → (k : ℕ) (d : X) → suc k < length xs → lt (get_or xs (suc k) d) (get_or xs k d) ≡ false
  adjacent [] h k d less = absurd (omega arith)
  adjacent (x ∷ []) h k d less = absurd (omega arith)
  adjacent (x ∷ y ∷ ys) h zero d less = h.0.0
  adjacent (x ∷ y ∷ ys) h (suc k) d less = adjacent (y ∷ ys) h.1 k d (omega arith)

  pub sorted_from_up : (xs : List X) → Up xs → IsSortedBy lt xs
  sorted_from_up xs h k d low less = subst (λ n. lt (get_or xs n d) (get_or xs k d) ≡ false) (sym (add-one k)) (adjacent xs h k d (omega arith))

  pub up_append : (xs ys : List X) → Up xs → Up ys → AllByRecursion (λ x. Above x ys) xs → Up (xs ++ ys)
  up_append [] ys h k a = k
  up_append (x ∷ xs) ys h k a = (every_append (λ y. lt y x ≡ false) xs ys h.0 a.0, up_append xs ys h.1 k a.1)

  pub up_left : (xs ys : List X) → Up (xs ++ ys) → Up xs
  up_left [] ys h = tt
  up_left (x ∷ xs) ys h = (every_left (λ y. lt y x ≡ false) xs ys h.0, up_left xs ys h.1)

  pub up_across : (xs ys : List X) → Up (xs ++ ys) → AllByRecursion (λ x. Above x ys) xs
  up_across [] ys h = tt
  up_across (x ∷ xs) ys h = (every_right (λ y. lt y x ≡ false) xs ys h.0, up_across xs ys h.1)

  abbrev put_in : X → List X → List X
  put_in x [] = x ∷ []
  put_in x (y ∷ ys) = cond (lt y x) (y ∷ put_in x ys) (x ∷ y ∷ ys)

  abbrev pub in_order : List X → List X
  in_order [] = []
  in_order (x ∷ xs) = put_in x (in_order xs)

  put_either : (b : Bool) (x y : X) (ys zs : List X) → IsPermutation (x ∷ ys) zs → IsPermutation (x ∷ y ∷ ys) (cond b (y ∷ zs) (x ∷ y ∷ ys))
  put_either true x y ys zs h = IsPermutation-trans _ _ _ (IsPermutation-middle (x ∷ []) y ys) (IsPermutation-cons y (x ∷ ys) zs h)
  put_either false x y ys zs h = IsPermutation-refl (x ∷ y ∷ ys)

  put_in_permutes : (x : X) (ys : List X) → IsPermutation (x ∷ ys) (put_in x ys)
  put_in_permutes x [] = IsPermutation-refl (x ∷ [])
  put_in_permutes x (y ∷ ys) = put_either (lt y x) x y ys (put_in x ys) (put_in_permutes x ys)

  pub in_order_permutes : (xs : List X) → IsPermutation xs (in_order xs)
  in_order_permutes [] = IsPermutation-refl []
  in_order_permutes (x ∷ xs) = IsPermutation-trans _ _ _ (IsPermutation-cons x _ _ (in_order_permutes xs)) (put_in_permutes x (in_order xs))

  up_either : (b : Bool) (x y : X) (ys zs : List X) → lt y x ≡ b → Up (y ∷ ys) → IsPermutation (x ∷ ys) zs → Up zs → Up (cond b (y ∷ zs) (x ∷ y ∷ ys))
  up_either true x y ys zs e h moved k = (every_permuted (λ z. lt z y ≡ false) (x ∷ ys) zs moved (one_way x y e, h.0), k)
  up_either false x y ys zs e h moved k = ((e, above_next x y ys e h.0), h)

  put_in_up : (x : X) (ys : List X) → Up ys → Up (put_in x ys)
  put_in_up x [] h = (tt, tt)
  put_in_up x (y ∷ ys) h = up_either (lt y x) x y ys (put_in x ys) refl h (put_in_permutes x ys) (put_in_up x ys h.1)

  pub in_order_up : (xs : List X) → Up (in_order xs)
  in_order_up [] = tt
  in_order_up (x ∷ xs) = put_in_up x (in_order xs) (in_order_up xs)

  -- a test that fails for what is above a value for which it fails holds of the first n, where n pass it
  module _ (t : X → Bool) (above_fails : (y z : X) → t y ≡ false → lt z y ≡ false → t z ≡ false) where
    count_none : (ys : List X) → AllByRecursion (λ z. t z ≡ false) ys → count_by t ys ≡ 0
    count_none [] h = refl
    count_none (y ∷ ys) h = let e : cond (t y) 1 0 ≡ 0 = ap {B = ℕ} (λ b. cond b 1 0) h.0 in omega
        (arith, sum_by-cons (λ x. cond (t x) 1 0) y ys, count_none ys h.1, e)

    front_either : (b : Bool) (n : ℕ) (y : X) (ys : List X) → t y ≡ b → Above y ys → suc n ≤ cond b 1 0 + count_by t ys →
        (n ≤ count_by t ys → AllByRecursion (λ z. t z ≡ true) (take n ys)) → AllByRecursion (λ z. t z ≡ true) (y ∷ take n ys)
    front_either true n y ys e a many k = (e, k (omega arith))
    front_either false n y ys e a many k =
        absurd (omega (arith, count_none ys (every_implies (λ z. lt z y ≡ false) (λ z. t z ≡ false) (λ z low. above_fails y z e low) ys a)))

    pub front_passes : (n : ℕ) (xs : List X) → Up xs → n ≤ count_by t xs → AllByRecursion (λ y. t y ≡ true) (take n xs)
    front_passes zero [] h many = tt
    front_passes zero (y ∷ ys) h many = tt
    front_passes (suc n) [] h many = tt
    front_passes (suc n) (y ∷ ys) h many =
        front_either (t y) n y ys refl h.0 (subst (λ c. suc n ≤ c) (sum_by-cons (λ x. cond (t x) 1 0) y ys) many) (front_passes n ys h.1)
