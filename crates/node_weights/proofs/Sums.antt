-- What the items of a list weigh together.
use Rattle.std.proofs.Common.{◌≡◌, ◌⊎◌, inl, inr, ℕ, zero, suc, ◌+◌, ◌<◌, ◌≤◌, List, [], ◌∷◌, ◌++◌, refl, subst, arith, Bool}
use Rattle.std.specs.Prelude.{Some, true, false, filter, length, nat_lt, if◌then◌else◌}
use Rattle.std.specs.List.{slice_get, slice_set}
use Rattle.std.proofs.lemmas.Bool.{ltb-true, ltb-false}
use Rattle.history_model.specs.History.{IsIn}
use Rattle.history_model.proofs.Lists.{in_none, in_cons}
use Rattle.node_laws.proofs.Lists.{all_of}
use Rattle.node_laws.proofs.SentParts.{filter_less}
use Rattle.node_weights.specs.Weights.{total}

pub total_append : {X : Type 0} (f : X → ℕ) (xs ys : List X) → total f (xs ++ ys) ≡ total f xs + total f ys
total_append f [] ys = omega arith
total_append f (x ∷ xs) ys = let more = total_append f xs ys in omega (arith, more)

-- without the one item
pub total_taken : {X : Type 0} (f : X → ℕ) (x : X) (front back : List X) → total f (front ++ x ∷ back) ≡ f x + total f (front ++ back)
total_taken f x [] back = refl
total_taken f x (y ∷ front) back = let more = total_taken f x front back in omega (arith, more)

-- each weighs no more
pub total_below : {X : Type 0} (g f : X → ℕ) (xs : List X) → ((x : X) → g x ≤ f x) → total g xs ≤ total f xs
total_below g f [] below = omega arith
total_below g f (x ∷ xs) below = let one = below x in let more = total_below g f xs below in omega (arith, one, more)

-- and one of them less
pub total_less : {X : Type 0} (g f : X → ℕ) (y : X) (xs : List X) → ((x : X) → g x ≤ f x) → g y < f y → IsIn y xs → total g xs < total f xs
total_less g f y [] below less there = absurd (in_none y there)
total_less {X = X} g f y (x ∷ xs) below less there = by_place (in_cons y x xs there) (λ i. total_less g f y xs below less i)
  where
    by_place : (y ≡ x) ⊎ IsIn y xs → (IsIn y xs → total g xs < total f xs) → total g (x ∷ xs) < total f (x ∷ xs)
    by_place (inl same) later =
        let one = subst (λ (z : X). g z < f z) same less in
        let more = total_below g f xs below in
        omega (arith, one, more)
    by_place (inr i) later = let one = below x in let more = later i in omega (arith, one, more)

-- another item at a place, where the others weigh no more
pub total_set : {X : Type 0} (g f : X → ℕ) (xs : List X) (k : ℕ) (old new : X) → ((x : X) → g x ≤ f x) → slice_get xs k ≡ Some old
    → total g (slice_set xs k new) + f old ≤ total f xs + g new
total_set g f [] k old new below got = absurd (cc)
total_set {X = X} g f (x ∷ xs) zero old new below got =
    let same : x ≡ old = cc in
    let rest = total_below g f xs below in
    subst (λ (z : X). g new + total g xs + f z ≤ f x + total f xs + g new) same (omega (arith, rest))
total_set g f (x ∷ xs) (suc k) old new below got =
    let one = below x in
    let more = total_set g f xs k old new below got in
    omega (arith, one, more)

-- fewer items pass a test that demands more, where one does not pass it
pub less_pass : {X : Type 0} (p q : X → Bool) (y : X) (xs : List X) → ((x : X) → p x ≡ true → q x ≡ true) → p y ≡ false → q y ≡ true → IsIn y xs
    → length (filter p xs) < length (filter q xs)
less_pass p q y [] weaker fails passes there = absurd (in_none y there)
less_pass {X = X} p q y (x ∷ xs) weaker fails passes there = by_place (in_cons y x xs there) (λ i. less_pass p q y xs weaker fails passes i)
  where
    first : (a b : Bool) → a ≡ false → b ≡ true → length (filter p xs) ≤ length (filter q xs)
        → length (if a then x ∷ filter p xs else filter p xs) < length (if b then x ∷ filter q xs else filter q xs)
    first true b f t more = absurd (cc)
    first false true f t more = omega (arith, more)
    first false false f t more = absurd (cc)

    later : (a b : Bool) → (a ≡ true → b ≡ true) → length (filter p xs) < length (filter q xs)
        → length (if a then x ∷ filter p xs else filter p xs) < length (if b then x ∷ filter q xs else filter q xs)
    later true true f more = omega (arith, more)
    later true false f more = absurd (let e = f refl in cc)
    later false true f more = omega (arith, more)
    later false false f more = more

    by_place : (y ≡ x) ⊎ IsIn y xs → (IsIn y xs → length (filter p xs) < length (filter q xs)) → length (filter p (x ∷ xs)) < length (filter q (x ∷ xs))
    by_place (inl same) more =
        first (p x) (q x) (subst (λ (z : X). p z ≡ false) same fails) (subst (λ (z : X). q z ≡ true) same passes)
        (filter_less p q xs (all_of (λ x. p x ≡ true → q x ≡ true) xs weaker))
    by_place (inr i) more = later (p x) (q x) (weaker x) (more i)

-- a number that is not greater is less, or it is the same
pub less_or_same : (a b : ℕ) → a ≤ b → (a < b) ⊎ (a ≡ b)
less_or_same a b le = by_test (nat_lt a b) refl
  where
    by_test : (t : Bool) → nat_lt a b ≡ t → (a < b) ⊎ (a ≡ b)
    by_test true h = inl (ltb-true a b h)
    by_test false h = let not_less = ltb-false a b h in inr (omega (arith, not_less, le))
