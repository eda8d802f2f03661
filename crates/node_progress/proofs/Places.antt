-- Items of lists by their place.
use Rattle.std.proofs.Common.{◌≡◌, ◌≢◌, ◌⊎◌, inl, inr, ℕ, zero, suc, List, [], ◌∷◌, ◌++◌, ◌+◌, length, refl, ap, subst, arith, append_assoc, length-append, Bool}
use Rattle.std.specs.Prelude.{Some, true, false, ◌==◌}
use Rattle.std.specs.List.{slice_get, slice_set}
use Rattle.std.proofs.lemmas.Bool.{eqb-true, eqb-false}
use Rattle.node_laws.proofs.Places.{EachAt}

pub get_other : {X : Type 0} (xs : List X) (k j : ℕ) (x : X) → j ≢ k → slice_get (slice_set xs k x) j ≡ slice_get xs j
get_other [] k j x other = refl
get_other (z ∷ xs) zero zero x other = absurd (other refl)
get_other (z ∷ xs) zero (suc j) x other = refl
get_other (z ∷ xs) (suc k) zero x other = refl
get_other (z ∷ xs) (suc k) (suc j) x other = get_other xs k j x (λ e. other (ap suc e))

pub get_behind : {X : Type 0} (xs : List X) (x : X) (ys : List X) → slice_get (xs ++ x ∷ ys) (length xs) ≡ Some x
get_behind [] x ys = refl
get_behind (y ∷ xs) x ys = get_behind xs x ys

pub get_longer : {X : Type 0} (xs ys : List X) (k : ℕ) (x : X) → slice_get xs k ≡ Some x → slice_get (xs ++ ys) k ≡ Some x
get_longer [] ys k x got = absurd (cc)
get_longer (z ∷ xs) ys zero x got = got
get_longer (z ∷ xs) ys (suc k) x got = get_longer xs ys k x got

pub length_set : {X : Type 0} (xs : List X) (k : ℕ) (x : X) → length (slice_set xs k x) ≡ length xs
length_set [] k x = refl
length_set (z ∷ xs) zero x = refl
length_set (z ∷ xs) (suc k) x = ap suc (length_set xs k x)

-- two places are one, or not
pub same_place : (a b : ℕ) → (a ≡ b) ⊎ (a ≢ b)
same_place a b = by_test (a == b) refl
  where
    by_test : (t : Bool) → (a == b) ≡ t → (a ≡ b) ⊎ (a ≢ b)
    by_test true h = inl (eqb-true _ _ h)
    by_test false h = inr (λ e. eqb-false _ _ h e)

-- each is what is at its place
pub each_there : {X : Type 0} (front xs : List X) (at : ℕ) → length front ≡ at → EachAt (λ j x. slice_get (front ++ xs) j ≡ Some x) at xs
each_there front [] at here = tt
each_there front (x ∷ xs) at here =
    let l = length-append front (x ∷ []) in (
      subst (λ k. slice_get (front ++ x ∷ xs) k ≡ Some x) here (get_behind front x xs),
      subst (λ l. EachAt (λ j y. slice_get l j ≡ Some y) (at + 1) xs) (append_assoc front (x ∷ []) xs)
          (each_there (front ++ x ∷ []) xs (at + 1) (omega (arith, l, here))),
    )
