-- How limits of keys are compared with others: by their parts.
use Rattle.std.specs.Prelude.{◌≡◌, ℕ, List, Bool, true, false, Option, refl, ◌==◌, if◌then◌else◌}
use Rattle.std.specs.Coded.{Coded, code_by, coded×, coded_ℕ, coded_list, coded_option}
use Rattle.value_compare.specs.Code.{bound_code, datum_code}
use Rattle.value_model.specs.Keys.{Bound}
use Rattle.value_model.specs.Tree.{Datum}
use Rattle.query_model.specs.KeySpans.{KeyLimits}

abbrev pub number_of : Bool → ℕ
number_of b = if b then 1 else 0

abbrev pub number_back : (b : Bool) → (number_of b == 1) ≡ b
number_back true = refl
number_back false = refl

abbrev pub flag_code : Coded Bool
flag_code = code_by ℕ coded_ℕ number_of (λ n. n == 1) number_back

abbrev pub LimitParts : Type 0
LimitParts = (Bound × Bound) × (Bool × Option (List Datum))

abbrev pub limits_code : Coded KeyLimits
limits_code =
    code_by LimitParts (coded× (coded× bound_code bound_code) (coded× flag_code (coded_option (coded_list datum_code))))
    (λ l. ((l.least, l.greatest), (l.with_greatest, l.points)))
    (λ p. record { least = p.0.0; greatest = p.0.1; with_greatest = p.1.0; points = p.1.1 }) (λ l. refl)
