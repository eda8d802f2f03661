-- What is left of a list that is gone over.
use Rattle.std.specs.Prelude.{◌≡◌, List, [], ◌∷◌, ◌++◌, length}
use Rattle.std.proofs.Common.{refl, sym, ap, ◌∙◌, arith, append_assoc, append-nil}
use Rattle.std.specs.List.{AllByRecursion}

pub none_left : {X : Type 0} (l : List X) → length l ≡ 0 → l ≡ []
none_left [] is = refl
none_left (x ∷ l) is = absurd (omega (arith, is))

-- one more of these was appended
pub one_less : {X : Type 0} (all new left rest whole : List X) (x : X) → new ≡ all ++ x ∷ [] → left ≡ x ∷ rest → all ++ left ≡ whole → new ++ rest ≡ whole
one_less {X} all new left rest whole x more first are =
    ap (λ (l : List X). l ++ rest) more ∙ append_assoc all (x ∷ []) rest ∙ ap (λ (l : List X). all ++ l) (sym first) ∙ are

pub no_more : {X : Type 0} (all left whole : List X) → left ≡ [] → all ++ left ≡ whole → all ≡ whole
no_more {X} all left whole none are = sym (append-nil all) ∙ ap (λ (l : List X). all ++ l) (sym none) ∙ are

pub all_after : {X : Type 0} (P : X → Type 0) (all new : List X) (x : X) → new ≡ all ++ x ∷ [] → AllByRecursion P all → P x → AllByRecursion P new
all_after {X} P all new x more are is = rw more (each all are)
  where
    each : (l : List X) → AllByRecursion P l → AllByRecursion P (l ++ x ∷ [])
    each [] are = (is, tt)
    each (y ∷ l) are = (are.0, each l are.1)
