-- What holds of each element of a list.
use Rattle.std.proofs.Common.{List, [], ◌∷◌, ◌++◌}
use Rattle.std.specs.Prelude.{IsPermutation}
use Rattle.std.specs.List.{AllByRecursion}
use Rattle.std.proofs.lemmas.List.Elements.{All-from_recursion, recursion_from_All}
use Rattle.std.proofs.lemmas.List.Sorted.{All-permutation}

module _ {X : Type 0} (P : X → Type 0) where
  pub every_append : (xs ys : List X) → AllByRecursion P xs → AllByRecursion P ys → AllByRecursion P (xs ++ ys)
  every_append [] ys h k = k
  every_append (x ∷ xs) ys h k = (h.0, every_append xs ys h.1 k)

  pub every_left : (xs ys : List X) → AllByRecursion P (xs ++ ys) → AllByRecursion P xs
  every_left [] ys h = tt
  every_left (x ∷ xs) ys h = (h.0, every_left xs ys h.1)

  pub every_right : (xs ys : List X) → AllByRecursion P (xs ++ ys) → AllByRecursion P ys
  every_right [] ys h = h
  every_right (x ∷ xs) ys h = every_right xs ys h.1

  pub every_permuted : (xs ys : List X) → IsPermutation xs ys → AllByRecursion P xs → AllByRecursion P ys
  every_permuted xs ys moved h = recursion_from_All P ys (All-permutation P xs ys moved (All-from_recursion P xs h))

  pub every_where : ((x : X) → P x) → (xs : List X) → AllByRecursion P xs
  every_where h [] = tt
  every_where h (x ∷ xs) = (h x, every_where h xs)

pub every_implies : {X : Type 0} (P Q : X → Type 0) → ((x : X) → P x → Q x) → (xs : List X) → AllByRecursion P xs → AllByRecursion Q xs
every_implies P Q f [] h = tt
every_implies P Q f (x ∷ xs) h = (f x h.0, every_implies P Q f xs h.1)

-- of two lists, every element of one beside every element of the other
pub every_turned : {X Y : Type 0} (R : X → Y → Type 0) (xs : List X) (ys : List Y) →
    AllByRecursion (λ y. AllByRecursion (λ x. R x y) xs) ys → AllByRecursion (λ x. AllByRecursion (R x) ys) xs
every_turned R [] ys h = tt
every_turned R (x ∷ xs) ys h = (
  every_implies (λ y. AllByRecursion (λ z. R z y) (x ∷ xs)) (R x) (λ y k. k.0) ys h,
  every_turned R xs ys (every_implies (λ y. AllByRecursion (λ z. R z y) (x ∷ xs)) (λ y. AllByRecursion (λ z. R z y) xs) (λ y k. k.1) ys h),
)
