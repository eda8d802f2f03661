-- Steps of loops over lists.
use Rattle.std.proofs.Common.{◌≡◌, ap, sym, ◌∙◌, ℕ, suc, ◌+◌, ◌<◌, List, [], ◌∷◌, ◌++◌, drop, length, get_or, add-one, drop-cons}
use Rattle.std.proofs.lemmas.List.{append_assoc}

-- the next of a list
pub next_cut : {X : Type 0} (xs : List X) (i : ℕ) (x : X) → i < length xs → x ≡ get_or xs i x → drop i xs ≡ x ∷ drop (i + 1) xs
next_cut xs i x less here = rw add-one (drop-cons xs i x less ∙ ap (λ y. y ∷ drop (suc i) xs) (sym here))

-- a loop that appends what a function gives of each element
module _ {X Y : Type 0} (f : List X → List Y) (both : (x : X) (xs : List X) → f (x ∷ xs) ≡ f (x ∷ []) ++ f xs)
    (xs : List X) (i : ℕ) (x : X) (less : i < length xs) (here : x ≡ get_or xs i x) where
  split : f (drop i xs) ≡ f (x ∷ []) ++ f (drop (i + 1) xs)
  split = ap f (next_cut xs i x less here) ∙ both x (drop (i + 1) xs)

  pub goes_on : (old new whole : List Y) → new ≡ old ++ f (x ∷ []) → old ++ f (drop i xs) ≡ whole → new ++ f (drop (i + 1) xs) ≡ whole
  goes_on old new whole grown inv =
      ap (λ l. l ++ f (drop (i + 1) xs)) grown ∙ append_assoc old (f (x ∷ [])) (f (drop (i + 1) xs)) ∙ ap (λ l. old ++ l) (sym split) ∙ inv
