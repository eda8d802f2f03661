-- Numbers of the arguments.
use Rattle.std.specs.Prelude.{◌≡◌, ℕ, ◌≤◌, ◌<◌, ◌^◌, ◌&&◌, Bool, true, false, List, length, Option, Some, None, nat_le, nat_lt, if◌then◌else◌, IfSome, Result, Ok, Err}
use Rattle.std.proofs.Common.{refl, sym, ap, subst, ◌∙◌}
use Rattle.std.specs.Str.{all_ascii_digits}
use Rattle.std.specs.Str.Parse.{IsNumeral, ParsesUnsigned, digits_value, without_leading_plus}
use Rattle.std.proofs.lemmas.Bool.{lt-ltb, ltb-true, le-leb, leb-true}
use Rattle.std.proofs.lemmas.Str.Parse.{IsNumeralModel, numerals_by_value, tells_all_ascii_digits}
use Rattle.cluster_service.specs.Numbers.{number_in, within}

both : (a b : Bool) → a && b ≡ true → (a ≡ true) × (b ≡ true)
both true b e = (refl, e)
both false b e = absurd (cc e)

and_both : (a b : Bool) → a ≡ true → b ≡ true → a && b ≡ true
and_both a b p q = rw (p, q) refl

pub false_unless : (b : Bool) → ¬ (b ≡ true) → b ≡ false
false_unless true never = absurd (never refl)
false_unless false never = refl

own : IsNumeralModel (λ ds. all_ascii_digits ds ≡ true) (digits_value 10)
own = numerals_by_value (λ ds. all_ascii_digits ds ≡ true) tells_all_ascii_digits

abbrev is_number : List ℕ → Bool
is_number ds = (nat_lt 0 (length ds) && all_ascii_digits ds) && nat_lt (digits_value 10 ds) (2 ^ 64)

told : (ds : List ℕ) → IsNumeral 10 ds × (digits_value 10 ds < 2 ^ 64) → is_number ds ≡ true
told ds is =
    and_both (nat_lt 0 (length ds) && all_ascii_digits ds) (nat_lt (digits_value 10 ds) (2 ^ 64))
    (and_both (nat_lt 0 (length ds)) (all_ascii_digits ds) (lt-ltb 0 (length ds) is.0.0) (own.from ds is.0.1))
    (lt-ltb (digits_value 10 ds) (2 ^ 64) is.1)

tells : (ds : List ℕ) → is_number ds ≡ true → IsNumeral 10 ds × (digits_value 10 ds < 2 ^ 64)
tells ds is =
    let all = both (nat_lt 0 (length ds) && all_ascii_digits ds) (nat_lt (digits_value 10 ds) (2 ^ 64)) is in
    let digits = both (nat_lt 0 (length ds)) (all_ascii_digits ds) all.0 in
    ((ltb-true 0 (length ds) digits.0, own.to ds digits.1), ltb-true (digits_value 10 ds) (2 ^ 64) all.1)

pub read : (word : List ℕ) (n : ℕ) → (IsNumeral 10 (without_leading_plus word) × (digits_value 10 (without_leading_plus word) < 2 ^ 64))
    × (n ≡ digits_value 10 (without_leading_plus word)) → Some n ≡ number_in word
read word n (is, same) =
    ap (λ (m : ℕ). Some m) same
    ∙ sym (ap (λ (b : Bool). if b then Some (digits_value 10 (without_leading_plus word)) else None) (told (without_leading_plus word) is))

pub unread : (word : List ℕ) → ¬ (IsNumeral 10 (without_leading_plus word) × (digits_value 10 (without_leading_plus word) < 2 ^ 64)) → None ≡ number_in word
unread word never =
    sym (ap (λ (b : Bool). if b then Some (digits_value 10 (without_leading_plus word)) else None)
    (false_unless (is_number (without_leading_plus word)) (λ is. never (tells (without_leading_plus word) is))))

-- what std reads in the word
pub parsed_some : {E : Type 0} (word : List ℕ) (r : Result ℕ E) (n : ℕ) → r ≡ Ok n → ParsesUnsigned 64 10 word r → Some n ≡ number_in word
parsed_some {E} word r n is parses = read word n (subst (λ (x : Result ℕ E). ParsesUnsigned 64 10 word x) is parses)

pub parsed_none : {E : Type 0} (word : List ℕ) (r : Result ℕ E) (e : E) → r ≡ Err e → ParsesUnsigned 64 10 word r → None ≡ number_in word
parsed_none {E} word r e is parses = unread word (subst (λ (x : Result ℕ E). ParsesUnsigned 64 10 word x) is parses)

-- RANGES

pub inside : (least most n : ℕ) → least ≤ n → n ≤ most → Some n ≡ within least most (Some n)
inside least most n low high =
    sym (ap (λ (b : Bool). if b then Some n else None) (and_both (nat_le least n) (nat_le n most) (le-leb least n low) (le-leb n most high)))

pub outside_range : (least most n : ℕ) → ¬ ((least ≤ n) × (n ≤ most)) → None ≡ within least most (Some n)
outside_range least most n never =
    sym (ap (λ (b : Bool). if b then Some n else None) (false_unless (nat_le least n && nat_le n most)
    (λ is. let all = both (nat_le least n) (nat_le n most) is in never (leb-true least n all.0, leb-true n most all.1))))

pub within_range : (least most : ℕ) (n : Option ℕ) → IfSome (within least most n) (λ m. (least ≤ m) × (m ≤ most))
within_range least most None = tt
within_range least most (Some n) = by_test (nat_le least n && nat_le n most) refl
  where
    by_test : (b : Bool) → nat_le least n && nat_le n most ≡ b → IfSome (if b then Some n else None) (λ m. (least ≤ m) × (m ≤ most))
    by_test true is = let all = both (nat_le least n) (nat_le n most) is in (leb-true least n all.0, leb-true n most all.1)
    by_test false is = tt
