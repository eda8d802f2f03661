-- The test of UTF-8 and the property that it decides.
use Rattle.std.proofs.Common.{◌≡◌, ℕ, List, Bool, true, false, refl}
use Rattle.std.specs.Str.{IsUtf8, is_utf8}
use Rattle.std.proofs.lemmas.Str.{IsUtf8-from_is_utf8, is_utf8-from_IsUtf8}

pub test_true : (bs : List ℕ) → IsUtf8 bs → is_utf8 bs ≡ true
test_true bs h = is_utf8-from_IsUtf8 bs h

falls_false : (bs : List ℕ) (b : Bool) → is_utf8 bs ≡ b → ¬ IsUtf8 bs → b ≡ false
falls_false bs true e none = absurd (none (IsUtf8-from_is_utf8 bs e))
falls_false bs false e none = refl

pub test_false : (bs : List ℕ) → ¬ IsUtf8 bs → is_utf8 bs ≡ false
test_false bs none = falls_false bs (is_utf8 bs) refl none

pub ruleset utf8_tests = (test_true, test_false)
