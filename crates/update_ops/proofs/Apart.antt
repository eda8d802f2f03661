-- Paths are apart where two names at the same position are.
use Rattle.std.proofs.Common.{◌≡◌, ℕ, List, [], ◌∷◌, refl, sym, ap, ◌∙◌, true≢false}
use Rattle.std.specs.Prelude.{Bool, true, false}
use Rattle.std.specs.Str.{bytes_eq}
use Rattle.query_model.specs.Paths.{Path}
use Rattle.query_model.specs.Changes.{is_apart}
use Rattle.query_model.proofs.Puts.{same_bytes, equal_itself}

other_way : (a b : List ℕ) (turned : Bool) → bytes_eq b a ≡ turned → bytes_eq a b ≡ false → turned ≡ false
other_way a b true same apart =
    let forth : bytes_eq a b ≡ true = ap (λ (n : List ℕ). bytes_eq a n) (same_bytes b a same) ∙ equal_itself a in
    absurd (true≢false (sym forth ∙ apart))
other_way a b false same apart = refl

pub apart_here : (a b : List ℕ) (p q : Path) → bytes_eq a b ≡ false → is_apart (a ∷ p) (b ∷ q) ≡ true
apart_here a b p q apart = rw (apart, other_way a b (bytes_eq b a) refl apart) refl

pub apart_next : (a b : List ℕ) (p q : Path) → bytes_eq a b ≡ true → is_apart (a ∷ p) (b ∷ q) ≡ is_apart p q
apart_next a b p q same =
    let back : bytes_eq b a ≡ true = ap (λ (n : List ℕ). bytes_eq n a) (sym (same_bytes a b same)) ∙ equal_itself a in
    rw (same, back) refl

pub apart_none : (q : Path) → is_apart [] q ≡ false
apart_none [] = refl
apart_none (b ∷ q) = refl
