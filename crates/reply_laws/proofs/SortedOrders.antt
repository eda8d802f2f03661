-- Where each element comes before all after it, no other order is sorted.
use Rattle.std.proofs.Common.{◌≡◌, ◌⊎◌, inl, inr, ◌≤◌, List, [], ◌∷◌, length, refl, sym, ap, subst, ◌∙◌, arith}
use Rattle.std.specs.Prelude.{Bool, true, false, cond, filter, IsPermutation}
use Rattle.std.specs.List.{AllByRecursion}
use Rattle.std.proofs.lemmas.List.Sorted.{IsPermutation-sym, length_permutation}
use Rattle.bson_model.proofs.Booleans.{is_false}
use Rattle.pipeline_model.proofs.EachElement.{every_implies, every_permuted}
use Rattle.pipeline_model.proofs.OrderedLists.{Up}
use Rattle.reply_laws.proofs.FilteredOrders.{filter_permutes, no_order}

pub length_filtered : {X : Type 0} (test : X → Bool) (xs : List X) → length (filter test xs) ≤ length xs
length_filtered test [] = omega arith
length_filtered test (x ∷ xs) = by_test (test x) (length_filtered test xs)
  where
    by_test : (b : Bool) → length (filter test xs) ≤ length xs → length (cond b (x ∷ filter test xs) (filter test xs)) ≤ length (x ∷ xs)
    by_test true less = omega arith
    by_test false less = omega arith

-- as many pass as there are, so all pass
all_passed : {X : Type 0} (test : X → Bool) (xs : List X) → length (filter test xs) ≡ length xs → filter test xs ≡ xs
all_passed test [] same = refl
all_passed test (x ∷ xs) same = by_test (test x) same (λ rest. all_passed test xs rest)
  where
    by_test : (b : Bool) → length (cond b (x ∷ filter test xs) (filter test xs)) ≡ length (x ∷ xs)
        → (length (filter test xs) ≡ length xs → filter test xs ≡ xs)
        → cond b (x ∷ filter test xs) (filter test xs) ≡ x ∷ xs
    by_test true same more = let rest : length (filter test xs) ≡ length xs = omega arith in ap (λ l. x ∷ l) (more rest)
    by_test false same more = let most = length_filtered test xs in absurd (omega arith)

all_pass : {X : Type 0} (test : X → Bool) (xs : List X) → AllByRecursion (λ x. test x ≡ true) xs → filter test xs ≡ xs
all_pass test [] all = refl
all_pass test (x ∷ xs) all = ap (λ (b : Bool). cond b (x ∷ filter test xs) (filter test xs)) all.0 ∙ ap (λ l. x ∷ l) (all_pass test xs all.1)

module _ {X : Type 0} (lt : X → X → Bool)
    (chain : (x y z : X) → lt y x ≡ false → lt z y ≡ false → lt z x ≡ false) (one_way : (x y : X) → lt y x ≡ true → lt x y ≡ false) where
  -- each comes before all after it
  abbrev pub Rises : List X → Type 0
  Rises [] = Unit {0}
  Rises (x ∷ xs) = AllByRecursion (λ y. lt x y ≡ true) xs × Rises xs

  not_before_itself : (x : X) → lt x x ≡ false
  not_before_itself x = is_false (lt x x) (λ before. let e : true ≡ false = sym before ∙ one_way x x before in cc)

  first_is : (x y : X) (xs ys : List X) → Rises (x ∷ xs) → IsPermutation (x ∷ xs) (y ∷ ys) → Up lt chain one_way (y ∷ ys) → y ≡ x
  first_is x y xs ys rises permutes up =
      by_first (every_permuted (λ z. (z ≡ x) ⊎ (lt x z ≡ true)) (x ∷ xs) (y ∷ ys) permutes
      (inl refl, every_implies (λ z. lt x z ≡ true) (λ z. (z ≡ x) ⊎ (lt x z ≡ true)) (λ z e. inr e) xs rises.0)).0
    where
      by_first : (y ≡ x) ⊎ (lt x y ≡ true) → y ≡ x
      by_first (inl same) = same
      by_first (inr before) =
          let none = (every_permuted (λ z. lt z y ≡ false) (y ∷ ys) (x ∷ xs) (IsPermutation-sym (x ∷ xs) (y ∷ ys) permutes) (not_before_itself y, up.0)).0 in
          absurd (let e : true ≡ false = sym before ∙ none in cc)

  rest_permutes : (x : X) (xs ys : List X) → AllByRecursion (λ y. lt x y ≡ true) xs → IsPermutation (x ∷ xs) (x ∷ ys) → IsPermutation xs ys
  rest_permutes x xs ys all permutes =
      let passed = filter_permutes (lt x) (x ∷ xs) (x ∷ ys) permutes in
      let left : filter (lt x) (x ∷ xs) ≡ xs = ap (λ (b : Bool). cond b (x ∷ filter (lt x) xs) (filter (lt x) xs)) (not_before_itself x)
      ∙ all_pass (lt x) xs all in
      let right : filter (lt x) (x ∷ ys) ≡ filter (lt x) ys = ap (λ (b : Bool). cond b (x ∷ filter (lt x) ys) (filter (lt x) ys)) (not_before_itself x) in
      let those : IsPermutation xs (filter (lt x) ys) = subst (λ l. IsPermutation l (filter (lt x) ys)) left
      (subst (λ l. IsPermutation (filter (lt x) (x ∷ xs)) l) right passed) in
      let long : length (filter (lt x) ys) ≡ length xs = length_permutation xs (filter (lt x) ys) those in
      let whole : length (x ∷ ys) ≡ length (x ∷ xs) = length_permutation (x ∷ xs) (x ∷ ys) permutes in
      let same : length (filter (lt x) ys) ≡ length ys = omega arith in
      subst (λ l. IsPermutation xs l) (all_passed (lt x) ys same) those

  pub one_rising : (xs ys : List X) → Rises xs → IsPermutation xs ys → Up lt chain one_way ys → ys ≡ xs
  one_rising [] ys rises permutes up = no_order ys permutes
  one_rising (x ∷ xs) [] rises permutes up = absurd (let long = length_permutation (x ∷ xs) [] permutes in omega arith)
  one_rising (x ∷ xs) (y ∷ ys) rises permutes up =
      let first : y ≡ x = first_is x y xs ys rises permutes up in
      let rest : IsPermutation xs ys = rest_permutes x xs ys rises.0 (subst (λ z. IsPermutation (x ∷ xs) (z ∷ ys)) first permutes) in
      ap (λ z. z ∷ ys) first ∙ ap (λ l. x ∷ l) (one_rising xs ys rises.1 rest up.1)
