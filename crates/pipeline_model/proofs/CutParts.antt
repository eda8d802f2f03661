-- Parts in order, each cut after its first n: the first n of what is left of all, put in order, are the first n of everything.
use Rattle.std.proofs.Common.{◌≡◌, ℕ, ◌+◌, ◌≤◌, ◌<◌, ◌⊎◌, ⊎_elim, List, [], ◌∷◌, ◌++◌, length, take, drop, refl, sym, ap, ◌∙◌, subst, arith}
use Rattle.std.specs.Prelude.{Bool, true, false, cond, not, count_by, flat_map, IsPermutation}
use Rattle.std.specs.List.{AllByRecursion}
use Rattle.std.proofs.lemmas.Bool.{cases_lt}
use Rattle.std.proofs.lemmas.List.{take-append-drop, append_assoc, append-nil, length-take-le, length-take, drop_all, take_all, take_at}
use Rattle.std.proofs.lemmas.List.Sums.{sum_by-cons, sum_by-append, count_by-le-length}
use Rattle.std.proofs.lemmas.List.Sorted.{IsPermutation-refl, IsPermutation-trans, IsPermutation-append, IsPermutation-append_left, IsPermutation-append_right, IsPermutation-append_comm, sum_by-IsPermutation}
use Rattle.pipeline_model.proofs.EachElement.{every_append, every_permuted, every_implies, every_turned}
use Rattle.pipeline_model.proofs.OrderedLists.{Above, Up, up_append, up_left, up_across, in_order, in_order_permutes, in_order_up, front_passes}

permuted_by_equality : {X : Type 0} (xs ys : List X) → xs ≡ ys → IsPermutation xs ys
permuted_by_equality xs ys e = subst (λ zs. IsPermutation xs zs) e (IsPermutation-refl xs)

-- the inner two of four exchanged
exchanged : {X : Type 0} (a b c d : List X) → IsPermutation ((a ++ b) ++ (c ++ d)) ((a ++ c) ++ (b ++ d))
exchanged a b c d =
    IsPermutation-trans _ _ _ (permuted_by_equality _ _ (append_assoc a b (c ++ d)))
    (IsPermutation-trans _ _ _
    (IsPermutation-append_right a (b ++ (c ++ d)) (c ++ (b ++ d))
    (IsPermutation-trans _ _ _ (permuted_by_equality _ _ (sym (append_assoc b c d)))
    (IsPermutation-trans _ _ _ (IsPermutation-append_left d (b ++ c) (c ++ b) (IsPermutation-append_comm b c))
    (permuted_by_equality _ _ (append_assoc c b d)))))
    (permuted_by_equality _ _ (sym (append_assoc a c (b ++ d)))))

-- what is kept and what is left out are everything
pub parts_permute : {X : Type 0} (n : ℕ) (parts : List (List X)) → IsPermutation (flat_map (λ p. p) parts) (flat_map (take n) parts ++ flat_map (drop n) parts)
parts_permute n [] = IsPermutation-refl []
parts_permute n (p ∷ parts) =
    IsPermutation-trans _ _ _
    (IsPermutation-append p (take n p ++ drop n p) _ _ (permuted_by_equality _ _ (sym (take-append-drop n p))) (parts_permute n parts))
    (exchanged (take n p) (drop n p) (flat_map (take n) parts) (flat_map (drop n) parts))

nothing_if : {X : Type 0} (xs : List X) → AllByRecursion (λ x. ⊥) xs → xs ≡ []
nothing_if [] h = refl
nothing_if (x ∷ xs) h = absurd h.0

count_all : {X : Type 0} (t : X → Bool) (xs : List X) → AllByRecursion (λ x. t x ≡ true) xs → count_by t xs ≡ length xs
count_all t [] h = refl
count_all t (x ∷ xs) h = let e : cond (t x) 1 0 ≡ 1 = ap {B = ℕ} (λ b. cond b 1 0) h.0 in omega
    (arith, sum_by-cons (λ y. cond (t y) 1 0) x xs, count_all t xs h.1, e)

module _ {X : Type 0} (lt : X → X → Bool)
    (chain : (x y z : X) → lt y x ≡ false → lt z y ≡ false → lt z x ≡ false) (one_way : (x y : X) → lt y x ≡ true → lt x y ≡ false) where
  abbrev AreUp : List (List X) → Type 0
  AreUp parts = AllByRecursion (Up lt chain one_way) parts

  -- y does not come before x
  abbrev not_below : X → X → Bool
  not_below y x = not (lt y x)

  -- so many do not come after y
  abbrev HasMany : ℕ → List X → X → Type 0
  HasMany n xs y = n ≤ count_by (not_below y) xs

  many_of_one : (n : ℕ) (p : List X) → Up lt chain one_way p → n ≤ length p → AllByRecursion (HasMany n (take n p)) (drop n p)
  many_of_one n p h enough =
      let split : Up lt chain one_way (take n p ++ drop n p) = subst (Up lt chain one_way) (sym (take-append-drop n p)) h in
      let across = every_turned (λ y x. lt y x ≡ false) (drop n p) (take n p) (up_across lt chain one_way (take n p) (drop n p) split) in
      every_implies (λ y. AllByRecursion (λ x. lt y x ≡ false) (take n p)) (HasMany n (take n p))
      (λ y low. omega (
        arith,
        count_all (not_below y) (take n p) (every_implies (λ x. lt y x ≡ false) (λ x. not_below y x ≡ true) (λ x e. ap not e) (take n p) low),
        length-take-le n p enough,
      )) (drop n p) across

  many_in_part : (n : ℕ) (p : List X) → Up lt chain one_way p → AllByRecursion (HasMany n (take n p)) (drop n p)
  many_in_part n p h = ⊎_elim
      (λ short. subst (AllByRecursion (HasMany n (take n p))) (sym (drop_all n p (omega arith))) tt)
      (λ enough. many_of_one n p h enough)
      (cases_lt (length p) n)

  -- what is left out comes before none of at least n that are kept
  many_kept : (n : ℕ) (parts : List (List X)) → AreUp parts → AllByRecursion (HasMany n (flat_map (take n) parts)) (flat_map (drop n) parts)
  many_kept n [] h = tt
  many_kept n (p ∷ parts) h =
      let kept = flat_map (take n) parts in
      let more = λ (y : X). sum_by-append (λ x. cond (not_below y x) 1 0) (take n p) kept in
      every_append (HasMany n (take n p ++ kept)) (drop n p) (flat_map (drop n) parts)
      (every_implies (HasMany n (take n p)) (HasMany n (take n p ++ kept)) (λ y many. omega (arith, more y)) (drop n p) (many_in_part n p h.0))
      (every_implies (HasMany n kept) (HasMany n (take n p ++ kept)) (λ y many. omega (arith, more y)) (flat_map (drop n) parts) (many_kept n parts h.1))

  by_test : (b c : Bool) → b ≡ c → (c ≡ false → ⊥) → not b ≡ false
  by_test b true e never = ap not e
  by_test b false e never = absurd (never refl)

  above_fails : (y x z : X) → not_below y x ≡ false → lt z x ≡ false → not_below y z ≡ false
  above_fails y x z e low = by_test (lt y z) (lt y z) refl (λ k. absurd (cc (e, chain x z y low k)))

  -- an order of everything that begins as the order of what is kept
  pub record Completes (n : ℕ) (parts : List (List X)) (kept : List X) : Type 0 where
    pub whole : List X
    pub permutes : IsPermutation (flat_map (λ p. p) parts) whole
    pub up : Up lt chain one_way whole
    pub front : take n whole ≡ take n kept

  module _ (n : ℕ) (parts : List (List X)) (kept : List X) (each : AreUp parts) (moved : IsPermutation (flat_map (take n) parts) kept)
      (up : Up lt chain one_way kept) where
    abbrev lows : List X
    lows = flat_map (drop n) parts

    abbrev behind : List X
    behind = in_order lt chain one_way (drop n kept ++ lows)

    split : Up lt chain one_way (take n kept ++ drop n kept)
    split = subst (Up lt chain one_way) (sym (take-append-drop n kept)) up

    counted : (y : X) → count_by (not_below y) kept ≡ count_by (not_below y) (flat_map (take n) parts)
    counted y = sum_by-IsPermutation (λ x. cond (not_below y x) 1 0) (flat_map (take n) parts) kept moved

    passes : (b : Bool) → not b ≡ true → b ≡ false
    passes true e = cc
    passes false e = refl

    -- each that is left out comes before none of the first n
    low_above : (y : X) → HasMany n (flat_map (take n) parts) y → AllByRecursion (λ x. lt y x ≡ false) (take n kept)
    low_above y many = every_implies (λ x. not_below y x ≡ true) (λ x. lt y x ≡ false) (λ x e. passes (lt y x) e) (take n kept)
        (front_passes lt chain one_way (not_below y) (above_fails y) n kept up (omega (arith, counted y)))

    all_above : AllByRecursion (λ x. Above lt chain one_way x behind) (take n kept)
    all_above =
        every_turned (λ x y. lt y x ≡ false) (take n kept) behind
        (every_permuted (λ y. AllByRecursion (λ x. lt y x ≡ false) (take n kept)) (drop n kept ++ lows) behind
        (in_order_permutes lt chain one_way (drop n kept ++ lows))
        (every_append (λ y. AllByRecursion (λ x. lt y x ≡ false) (take n kept)) (drop n kept) lows
        (every_turned (λ y x. lt y x ≡ false) (drop n kept) (take n kept) (up_across lt chain one_way (take n kept) (drop n kept) split))
        (every_implies (HasMany n (flat_map (take n) parts)) (λ y. AllByRecursion (λ x. lt y x ≡ false) (take n kept)) low_above lows
        (many_kept n parts each))))

    -- where fewer than n are kept, nothing is left out
    nothing_low : length kept < n → lows ≡ []
    nothing_low short = nothing_if lows (every_implies (HasMany n (flat_map (take n) parts)) (λ y. ⊥)
        (λ y many. omega (arith, count_by-le-length (not_below y) kept, counted y)) lows (many_kept n parts each))

    same_front : take n (take n kept ++ behind) ≡ take n kept
    same_front = ⊎_elim
        (λ short. rw (drop_all n kept (omega arith), nothing_low short, append-nil (take n kept))
        (take_all n (take n kept) (omega (arith, length-take n kept))))
        (λ enough. take_at (take n kept) behind n (length-take-le n kept enough))
        (cases_lt (length kept) n)

    pub complete : Completes n parts kept
    complete = record {
      whole = take n kept ++ behind;
      permutes =
          IsPermutation-trans _ _ _ (parts_permute n parts)
          (IsPermutation-trans _ _ _ (IsPermutation-append_left lows (flat_map (take n) parts) kept moved)
          (IsPermutation-trans _ _ _ (permuted_by_equality _ _
          (ap (λ k. k ++ lows) (sym (take-append-drop n kept)) ∙ append_assoc (take n kept) (drop n kept) lows))
          (IsPermutation-append_right (take n kept) (drop n kept ++ lows) behind (in_order_permutes lt chain one_way (drop n kept ++ lows)))));
      up = up_append lt chain one_way (take n kept) behind (up_left lt chain one_way (take n kept) (drop n kept) split)
          (in_order_up lt chain one_way (drop n kept ++ lows)) all_above;
      front = same_front;
    }
