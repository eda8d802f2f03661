-- What holds of each item of a list, and what is in one.
use Rattle.std.proofs.Common.{◌≡◌, ◌⊎◌, inl, inr, List, [], ◌∷◌, ◌++◌, refl, ap, subst, Bool}
use Rattle.std.specs.Prelude.{map, filter, true, false, if◌then◌else◌}
use Rattle.std.specs.List.{AllByRecursion}
use Rattle.history_model.proofs.Lists.{in_first, in_later, in_cons, in_none}
use Rattle.history_model.specs.History.{IsIn}

pub all_of : {X : Type 0} (P : X → Type 0) (xs : List X) → ((x : X) → P x) → AllByRecursion P xs
all_of P [] f = tt
all_of P (x ∷ xs) f = (f x, all_of P xs f)

pub all_prefix : {X : Type 0} (P : X → Type 0) (xs ys : List X) → AllByRecursion P (xs ++ ys) → AllByRecursion P xs
all_prefix P [] ys all = tt
all_prefix P (x ∷ xs) ys all = (all.0, all_prefix P xs ys all.1)

pub all_behind : {X : Type 0} (P : X → Type 0) (xs ys : List X) → AllByRecursion P (xs ++ ys) → AllByRecursion P ys
all_behind P [] ys all = all
all_behind P (x ∷ xs) ys all = all_behind P xs ys all.1

pub all_mapped : {X Y : Type 0} (P : Y → Type 0) (f : X → Y) (xs : List X) → AllByRecursion (λ x. P (f x)) xs → AllByRecursion P (map f xs)
all_mapped P f [] all = tt
all_mapped P f (x ∷ xs) all = (all.0, all_mapped P f xs all.1)

pub all_unmapped : {X Y : Type 0} (P : Y → Type 0) (f : X → Y) (xs : List X) → AllByRecursion P (map f xs) → AllByRecursion (λ x. P (f x)) xs
all_unmapped P f [] all = tt
all_unmapped P f (x ∷ xs) all = (all.0, all_unmapped P f xs all.1)

-- what holds of each item holds of those that pass a test, which they pass
pub all_filtered : {X : Type 0} (P : X → Type 0) (test : X → Bool) (xs : List X) → AllByRecursion P xs
    → AllByRecursion (λ x. P x × (test x ≡ true)) (filter test xs)
all_filtered P test [] all = tt
all_filtered P test (x ∷ xs) all = by_test (test x) refl (all_filtered P test xs all.1)
  where
    by_test : (t : Bool) → test x ≡ t → AllByRecursion (λ y. P y × (test y ≡ true)) (filter test xs)
        → AllByRecursion (λ y. P y × (test y ≡ true)) (if t then x ∷ filter test xs else filter test xs)
    by_test true h more = ((all.0, h), more)
    by_test false h more = more

pub map_longer : {X Y : Type 0} (f : X → Y) (xs ys : List X) → map f (xs ++ ys) ≡ map f xs ++ map f ys
map_longer f [] ys = refl
map_longer f (x ∷ xs) ys = ap (λ l. f x ∷ l) (map_longer f xs ys)

pub in_mapped : {X Y : Type 0} (f : X → Y) (x : X) (xs : List X) → IsIn x xs → IsIn (f x) (map f xs)
in_mapped f x [] i = absurd (in_none x i)
in_mapped f x (y ∷ xs) i = by_place (in_cons x y xs i) (λ j. in_mapped f x xs j)
  where
    by_place : (x ≡ y) ⊎ IsIn x xs → (IsIn x xs → IsIn (f x) (map f xs)) → IsIn (f x) (f y ∷ map f xs)
    by_place (inl same) later = subst (λ z. IsIn (f x) (z ∷ map f xs)) (ap f same) (in_first (f x) (map f xs))
    by_place (inr j) later = in_later (f x) (f y) (map f xs) (later j)

-- both that an item is there and what holds of it give another fact
pub all_within : {X : Type 0} (P Q : X → Type 0) (xs : List X) → ((x : X) → IsIn x xs → P x → Q x) → AllByRecursion P xs → AllByRecursion Q xs
all_within P Q [] f all = tt
all_within P Q (x ∷ xs) f all = (f x (in_first x xs) all.0, all_within P Q xs (λ y i p. f y (in_later y x xs i) p) all.1)
