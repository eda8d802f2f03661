-- The next item of a list, and what is so of each.
use Rattle.std.proofs.Common.{◌≡◌, ◌<◌, ◌+◌, ℕ, suc, List, [], ◌∷◌, ◌++◌, refl, sym, ap, ◌∙◌, arith, drop, length, drop-cons}
use Rattle.std.specs.Prelude.{Bool, true, false, ◌||◌, slice_index_or}
use Rattle.std.specs.List.{list_any}

pub next_is : {X : Type 0} (xs : List X) (i : ℕ) (x : X) → i < length xs → x ≡ slice_index_or xs i x → drop i xs ≡ x ∷ drop (i + 1) xs
next_is {X} xs i x inside is =
    let plus : suc i ≡ i + 1 = omega arith in
    drop-cons xs i x inside
    ∙ ap (λ (y : X). y ∷ drop (suc i) xs) (sym is)
    ∙ ap (λ (n : ℕ). x ∷ drop n xs) plus

or_again : (a b c : Bool) → (a || (b || c)) ≡ ((a || b) || c)
or_again true b c = refl
or_again false b c = refl

or_none : (a : Bool) → (a || false) ≡ a
or_none true = refl
or_none false = refl

pub any_push : {X : Type 0} (test : X → Bool) (xs : List X) (y : X) → list_any test (xs ++ y ∷ []) ≡ (list_any test xs || test y)
any_push test [] y = or_none (test y)
any_push test (x ∷ xs) y = ap (λ (b : Bool). test x || b) (any_push test xs y) ∙ or_again (test x) (list_any test xs) (test y)

-- nothing passes a test where nothing is
pub none_passes : {X : Type 0} (test : X → Bool) (xs : List X) (b : Bool) → b ≡ list_any test xs → b ≡ true → xs ≡ [] → ⊥
none_passes test [] b is passed none = let clash : true ≡ false = sym passed ∙ is in cc
none_passes test (x ∷ xs) b is passed none = cc
