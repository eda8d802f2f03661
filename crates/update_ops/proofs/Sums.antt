-- Sums that fit a type, and those that do not.
use Rattle.std.proofs.Common.{◌≡◌, ◌<◌, refl, arith}
use Rattle.std.specs.Prelude.{ℤ, pos, negsuc, FitsSigned, true, Ok, Err}
use Rattle.std.specs.Int.{w32, w64}
use Rattle.std.proofs.lemmas.Bool.{lt-ltb, ltb-true, le-leb, leb-true}
use Rattle.bson_model.specs.Tree.{int32_value, int64_value}
use Rattle.query_model.specs.Edits.{is_int32, is_int64, long_sum, short_sum, overflow_fault}
use Rattle.bson_model.proofs.Booleans.{both, is_false}

int32_inside : (z : ℤ) → FitsSigned w32 z → is_int32 z ≡ true
int32_inside (pos n) f = let h : n < 2147483648 = f.sfits in lt-ltb n 2147483648 h
int32_inside (negsuc n) f = let h : n < 2147483648 = f.sfits in rw (le-leb n 2147483647 (omega (arith, h))) refl

int32_fits : (z : ℤ) → is_int32 z ≡ true → FitsSigned w32 z
int32_fits (pos n) e = record { sfits = ltb-true n 2147483648 e }
int32_fits (negsuc n) e = record { sfits = omega (arith, leb-true n 2147483647 (both _ _ e).0) }

int64_inside : (z : ℤ) → FitsSigned w64 z → is_int64 z ≡ true
int64_inside (pos n) f = let h : n < 9223372036854775808 = f.sfits in lt-ltb n 9223372036854775808 h
int64_inside (negsuc n) f = let h : n < 9223372036854775808 = f.sfits in rw (le-leb n 9223372036854775807 (omega (arith, h))) refl

int64_fits : (z : ℤ) → is_int64 z ≡ true → FitsSigned w64 z
int64_fits (pos n) e = record { sfits = ltb-true n 9223372036854775808 e }
int64_fits (negsuc n) e = record { sfits = omega (arith, leb-true n 9223372036854775807 (both _ _ e).0) }

pub long_inside : (z s : ℤ) → FitsSigned w64 z → s ≡ z → long_sum z ≡ Ok (int64_value s)
long_inside z s f is = rw (int64_inside z f, is) refl

pub long_past : (z : ℤ) → (FitsSigned w64 z → ⊥) → long_sum z ≡ Err overflow_fault
long_past z past = rw (is_false (is_int64 z) (λ e. past (int64_fits z e))) refl

pub short_inside : (z s : ℤ) → FitsSigned w32 z → s ≡ z → short_sum z ≡ Ok (int32_value s)
short_inside z s f is = rw (int32_inside z f, is) refl

pub short_past : (z : ℤ) → (FitsSigned w32 z → ⊥) → short_sum z ≡ long_sum z
short_past z past = rw (is_false (is_int32 z) (λ e. past (int32_fits z e))) refl
