-- Words that name kinds are texts.
use Rattle.std.proofs.Common.{◌≡◌, Bool, true, false, ℕ, zero, suc, ◌<◌, List, [], ◌∷◌, refl, sym, ap, subst, ◌∙◌, arith, rules}
use Rattle.std.specs.Prelude.{◌||◌}
use Rattle.std.specs.List.{AllByRecursion}
use Rattle.std.specs.Str.{IsAscii, IsUtf8, bytes_eq}
use Rattle.std.proofs.lemmas.Slice.Eq.{bytes_eq-Decides}
use Rattle.std.proofs.lemmas.Str.{IsUtf8-from_ascii}
use Rattle.script_lines.specs.Kinds.{is_among, kinds}

abbrev AreSmall : List ℕ → Type 0
AreSmall bytes = AllByRecursion (λ b. b < 128) bytes

ascii_of : (bytes : List ℕ) → AreSmall bytes → IsAscii bytes
ascii_of [] all i = omega arith
ascii_of (b ∷ bytes) all zero = all.0
ascii_of (b ∷ bytes) all (suc i) = ascii_of bytes all.1 i

all_small : AllByRecursion (λ w. AreSmall w) kinds
all_small = search rules

among_small : (words : List (List ℕ)) (word : List ℕ) → AllByRecursion (λ w. AreSmall w) words → is_among words word ≡ true → AreSmall word
among_small [] word all is = absurd (cc is)
among_small (w ∷ words) word all is = by_first (bytes_eq w word) refl (λ e. among_small words word all.1 e)
  where
    by_first : (b : Bool) → bytes_eq w word ≡ b → (is_among words word ≡ true → AreSmall word) → AreSmall word
    by_first true e more = subst (λ (l : List ℕ). AreSmall l) ((bytes_eq-Decides w word).0 e) all.0
    by_first false e more = more (sym (ap (λ (b : Bool). b || is_among words word) e) ∙ is)

pub none_among : (word : List ℕ) → (IsUtf8 word → ⊥) → false ≡ is_among kinds word
none_among word none = by_answer (is_among kinds word) refl
  where
    by_answer : (b : Bool) → is_among kinds word ≡ b → false ≡ is_among kinds word
    by_answer true e = absurd (none (IsUtf8-from_ascii word (ascii_of word (among_small kinds word all_small e))))
    by_answer false e = sym e
