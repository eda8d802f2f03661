-- What a sort with a limit may keep while documents arrive: the first n of those that arrived are enough.
use Rattle.std.proofs.Common.{◌≡◌, ℕ, zero, suc, ◌≤◌, List, [], ◌∷◌, ◌++◌, map, take, refl, sym, ap, ◌∙◌, subst, arith}
use Rattle.std.specs.Prelude.{Bool, true, false, flat_map, IsPermutation, IsSortedBy}
use Rattle.std.specs.List.{AllByRecursion}
use Rattle.std.proofs.lemmas.List.Sorted.{IsPermutation-append_left, IsPermutation-trans}
use Rattle.pipeline_model.proofs.OrderedLists.{Up, up_from_sorted, sorted_from_up}
use Rattle.pipeline_model.proofs.CutParts.{complete}

-- the first n of documents in some order of them
pub record AreFirst {X : Type 0} (lt : X → X → Bool) (n : ℕ) (docs kept : List X) : Type 0 where
  pub whole : List X
  pub permutes : IsPermutation docs whole
  pub sorted : IsSortedBy lt whole
  pub first : kept ≡ take n whole

-- each by itself
abbrev singles : {X : Type 0} → List X → List (List X)
singles xs = map (λ x. x ∷ []) xs

all_singles : {X : Type 0} (xs : List X) → flat_map (λ p. p) (singles xs) ≡ xs
all_singles [] = refl
all_singles (x ∷ xs) = ap (λ l. x ∷ l) (all_singles xs)

take_singles : {X : Type 0} (n : ℕ) (xs : List X) → flat_map (take (suc n)) (singles xs) ≡ xs
take_singles n [] = refl
take_singles zero (x ∷ xs) = ap (λ l. x ∷ l) (take_singles zero xs)
take_singles (suc n) (x ∷ xs) = ap (λ l. x ∷ l) (take_singles (suc n) xs)

module _ {X : Type 0} (lt : X → X → Bool)
    (chain : (x y z : X) → lt y x ≡ false → lt z y ≡ false → lt z x ≡ false) (one_way : (x y : X) → lt y x ≡ true → lt x y ≡ false) where
  up_singles : (xs : List X) → AllByRecursion (Up lt chain one_way) (singles xs)
  up_singles [] = tt
  up_singles (x ∷ xs) = ((tt, tt), up_singles xs)

  -- The first n of those that arrived, and more documents, put in order: their first n are the first n of all. So what does not come before
  -- any of n that are kept may be passed over.
  pub first_of_more : (n : ℕ) (docs kept more sorted : List X) → 1 ≤ n → AreFirst lt n docs kept → IsPermutation (kept ++ more) sorted → IsSortedBy lt sorted →
      AreFirst lt n (docs ++ more) (take n sorted)
  first_of_more zero docs kept more sorted some first moved up = absurd (omega arith)
  first_of_more (suc n) docs kept more sorted some first moved up =
      let parts = first.whole ∷ singles more in
      let tops : flat_map (take (suc n)) parts ≡ kept ++ more = ap (λ l. take (suc n) first.whole ++ l) (take_singles n more)
      ∙ ap (λ l. l ++ more) (sym first.first) in
      let done = complete lt chain one_way (suc n) parts sorted (up_from_sorted lt chain one_way first.whole first.sorted, up_singles more)
      (subst (λ l. IsPermutation l sorted) (sym tops) moved) (up_from_sorted lt chain one_way sorted up) in
      record {
        whole = done.whole;
        permutes = IsPermutation-trans _ _ _ (IsPermutation-append_left more docs first.whole first.permutes)
            (subst (λ l. IsPermutation (first.whole ++ l) done.whole) (all_singles more) done.permutes);
        sorted = sorted_from_up lt chain one_way done.whole done.up;
        first = sym done.front;
      }
