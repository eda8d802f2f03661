-- The test that a text has no 00, and the property that it decides.
use Rattle.std.proofs.Common.{◌≡◌, ◌≢◌, ◌==◌, ℕ, List, [], ◌∷◌, Bool, true, false, refl, arith, cond}
use Rattle.std.specs.Prelude.{IsTrue}
use Rattle.std.proofs.lemmas.Bool.Decides.{nat_tests}
use Rattle.bson_model.specs.Grammar.{HasNoZero}
use Rattle.bson_values.specs.Names.{has_no_zero}

-- a test that a zero fails
passed : (b : ℕ) (t : Bool) → cond (b == 0) false t ≡ true → (b ≢ 0) × (t ≡ true)
passed b t h = (λ e. grind (arith, nat_tests), grind (arith, nat_tests))

passes : (b : ℕ) (t : Bool) → b ≢ 0 → t ≡ true → cond (b == 0) false t ≡ true
passes b t h e = grind (arith, nat_tests)

pub HasNoZero-from_test : (s : List ℕ) → IsTrue (has_no_zero s) → HasNoZero s
HasNoZero-from_test [] h = tt
HasNoZero-from_test (b ∷ s) h =
    let p = passed b (has_no_zero s) h in
    (p.0, HasNoZero-from_test s p.1)

pub test-from_HasNoZero : (s : List ℕ) → HasNoZero s → has_no_zero s ≡ true
test-from_HasNoZero [] h = refl
test-from_HasNoZero (b ∷ s) h = passes b (has_no_zero s) h.0 (test-from_HasNoZero s h.1)
