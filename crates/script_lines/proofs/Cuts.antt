-- Where bytes are cut, and which bytes a number is written in.
use Rattle.std.proofs.Common.{◌≡◌, ◌≢◌, ℕ, ◌+◌, ◌%◌, ◌<◌, List, [], ◌∷◌, ◌++◌, length, get_or, take, refl, sym, ap, subst, ◌∙◌, arith}
use Rattle.std.proofs.Common.{add-one}
use Rattle.std.specs.Fmt.{decimal}
use Rattle.std.proofs.lemmas.Fmt.{IsAscii-decimal, decimal_by_steps}
use Rattle.std.proofs.lemmas.Str.{IsUtf8-from_ascii}
use Rattle.std.proofs.Math.Seq.{take-suc}
use Rattle.std.specs.Str.{IsUtf8}
use Rattle.script_lines.specs.Words.{AreNumbers, HasNone, IsCutAt, IsNumber}

pub none_append : (byte : ℕ) (xs ys : List ℕ) → HasNone byte xs → HasNone byte ys → HasNone byte (xs ++ ys)
none_append byte [] ys first second = second
none_append byte (x ∷ xs) ys first second = (first.0, none_append byte xs ys first.1 second)

pub none_more : (byte i : ℕ) (bytes : List ℕ) → HasNone byte (take i bytes) → i < length bytes → get_or bytes i 0 ≢ byte → HasNone byte (take (i + 1) bytes)
none_more byte i bytes first within other =
    subst (λ (l : List ℕ). HasNone byte l) (sym (ap (λ (n : ℕ). take n bytes) (add-one i) ∙ take-suc bytes i 0 within))
    (none_append byte (take i bytes) (get_or bytes i 0 ∷ []) first (other, tt))

-- what comes before the first such byte determines what comes after it
pub same_cut : (byte : ℕ) (a b c d : List ℕ) → HasNone byte a → HasNone byte c → a ++ byte ∷ b ≡ c ++ byte ∷ d → (a ≡ c) × (b ≡ d)
same_cut byte [] b [] d in_a in_c e = (refl, cc e)
same_cut byte [] b (y ∷ c) d in_a in_c e = absurd (in_c.0 (cc e))
same_cut byte (x ∷ a) b [] d in_a in_c e = absurd (in_a.0 (cc e))
same_cut byte (x ∷ a) b (y ∷ c) d in_a in_c e =
    let same : x ≡ y = cc e in
    let rest : a ++ byte ∷ b ≡ c ++ byte ∷ d = cc e in
    let more = same_cut byte a b c d in_a.1 in_c.1 rest in
    (cc (same, more.0), more.1)

-- bytes without this byte are not cut at it
pub no_cut : (byte : ℕ) (bytes a b : List ℕ) → HasNone byte bytes → bytes ≡ a ++ byte ∷ b → ⊥
no_cut byte bytes [] b none e = (subst (λ (l : List ℕ). HasNone byte l) e none).0 refl
no_cut byte bytes (x ∷ a) b none e = no_cut byte (a ++ byte ∷ b) a b (subst (λ (l : List ℕ). HasNone byte l) e none).1 refl

-- no number has a space
pub number_none : (word : List ℕ) (n : ℕ) → IsNumber word n → HasNone 32 word
number_none word n is =
    subst (λ (l : List ℕ). HasNone 32 l) (sym is.digits)
    (decimal_by_steps (λ k ds. HasNone 32 ds) (λ k small. ((λ e. absurd (omega (arith, e))), tt))
    (λ k ds large none. none_append 32 ds ((48 + k % 10) ∷ []) none ((λ e. absurd (omega (arith, e))), tt)) n is.fits)

pub number_utf8 : (word : List ℕ) (n : ℕ) → IsNumber word n → IsUtf8 word
number_utf8 word n is = subst (λ (l : List ℕ). IsUtf8 l) (sym is.digits) (IsUtf8-from_ascii (decimal n) (IsAscii-decimal n is.fits))

-- two numbers are cut at their space
pub numbers_cut : (words a b : List ℕ) (m n : ℕ) → IsCutAt 32 words a b → AreNumbers words m n → IsNumber a m × IsNumber b n
numbers_cut words a b m n cut are =
    let same = same_cut 32 are.first are.second a b (number_none are.first m are.is_first) cut.first (sym are.whole ∙ cut.whole) in
    (subst (λ (l : List ℕ). IsNumber l m) same.0 are.is_first, subst (λ (l : List ℕ). IsNumber l n) same.1 are.is_second)
