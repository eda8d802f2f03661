-- The place of the next message of a kind.
use Rattle.std.proofs.Common.{◌≡◌, ℕ, zero, suc, ◌+◌, ◌<◌, ◌≤◌, Bool, true, false, List, [], ◌∷◌, length, drop, refl, sym, ap, subst, ◌∙◌, arith, add-one, not}
use Rattle.std.specs.Prelude.{Some, None, ◌&&◌}
use Rattle.std.specs.List.{slice_get}
use Rattle.node_model.specs.Letters.{Letter}
use Rattle.sim_driver.specs.Scripts.{AreDelivered, is_delivered, is_of_kind, next_from}
use Rattle.sim_driver.proofs.Marks.{delivered_at}
use Rattle.sim_driver.proofs.Places.{drop_here, drop_past, not_taken, taken}

module _ (kind : List ℕ) (ds : List Bool) where
  step_other : (n : ℕ) (m : Letter) (letters : List Letter) → (not (is_delivered ds n) && is_of_kind kind m) ≡ false
      → next_from n kind ds (m ∷ letters) ≡ next_from (n + 1) kind ds letters
  step_other n m letters e = not_taken (not (is_delivered ds n) && is_of_kind kind m) (Some n) (next_from (n + 1) kind ds letters) e

  step_delivered : (n : ℕ) (m : Letter) (letters : List Letter) → is_delivered ds n ≡ true
      → next_from n kind ds (m ∷ letters) ≡ next_from (n + 1) kind ds letters
  step_delivered n m letters e = step_other n m letters (ap (λ (b : Bool). not b && is_of_kind kind m) e)

  passed_from : (k : ℕ) (xs : List Letter) (first : ℕ) → ((p : ℕ) → p < first → is_delivered ds (k + p) ≡ true)
      → next_from (k + first) kind ds (drop first xs) ≡ next_from k kind ds xs
  passed_from k xs zero all = let same : k + 0 ≡ k = omega arith in ap (λ (n : ℕ). next_from n kind ds xs) same
  passed_from k [] (suc n) all = refl
  passed_from k (m ∷ xs) (suc n) all =
      let later : k + suc n ≡ (k + 1) + n = omega arith in
      let here : k + 0 ≡ k = omega arith in
      ap (λ (j : ℕ). next_from j kind ds (drop n xs)) later
      ∙ (passed_from (k + 1) xs n (λ p below. next_was k n all p below)
      ∙ sym (step_delivered k m xs (subst (λ (j : ℕ). is_delivered ds j ≡ true) here (all 0 (omega arith)))))
    where
      next_was : (k n : ℕ) → ((p : ℕ) → p < suc n → is_delivered ds (k + p) ≡ true) → (p : ℕ) → p < n → is_delivered ds ((k + 1) + p) ≡ true
      next_was k n all p below =
          let there : k + suc p ≡ (k + 1) + p = omega arith in
          subst (λ (j : ℕ). is_delivered ds j ≡ true) there (all (suc p) (omega (arith, below)))

  pub next_passed : (xs : List Letter) (first : ℕ) → AreDelivered first ds → next_from first kind ds (drop first xs) ≡ next_from 0 kind ds xs
  next_passed xs first all =
      let same : first ≡ 0 + first = omega arith in
      ap (λ (n : ℕ). next_from n kind ds (drop first xs)) same
      ∙ passed_from 0 xs first (λ p below. delivered_from p (delivered_at first ds p all below))
    where
      delivered_from : (p : ℕ) → is_delivered ds p ≡ true → is_delivered ds (0 + p) ≡ true
      delivered_from p is = let same : p ≡ 0 + p = omega arith in subst (λ (j : ℕ). is_delivered ds j ≡ true) same is

  module _ (xs : List Letter) (at : ℕ) (m : Letter) (got : slice_get xs at ≡ Some m) where
    pub next_here : (is : Bool) → is ≡ (not (is_delivered ds at) && is_of_kind kind m) → is ≡ true → next_from at kind ds (drop at xs) ≡ Some at
    next_here is told holds =
        ap (λ (l : List Letter). next_from at kind ds l) (drop_here xs at m got)
        ∙ taken (not (is_delivered ds at) && is_of_kind kind m) (Some at) (next_from (at + 1) kind ds (drop (suc at) xs)) (sym told ∙ holds)

    pub next_other : (is : Bool) → is ≡ (not (is_delivered ds at) && is_of_kind kind m) → is ≡ false
        → next_from at kind ds (drop at xs) ≡ next_from (at + 1) kind ds (drop (at + 1) xs)
    next_other is told fails =
        ap (λ (l : List Letter). next_from at kind ds l) (drop_here xs at m got)
        ∙ (step_other at m (drop (suc at) xs) (sym told ∙ fails) ∙ ap (λ (n : ℕ). next_from (at + 1) kind ds (drop n xs)) (sym (add-one at)))

  pub next_none : (xs : List Letter) (at : ℕ) → length xs ≤ at → next_from at kind ds (drop at xs) ≡ None
  next_none xs at past = ap (λ (l : List Letter). next_from at kind ds l) (drop_past xs at past)
