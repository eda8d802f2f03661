-- A code that determines a rule: its name, and a number and a path for its treatment.
use Rattle.std.specs.Prelude.{◌≡◌, ℕ, List, [], refl, ◌==◌, if◌then◌else◌}
use Rattle.std.specs.Coded.{Coded, code_by, coded_list, coded×, coded_ℕ}
use Rattle.query_model.specs.Paths.{Path}
use Rattle.pipeline_model.specs.Projections.{Treatment, include_it, exclude_it, compute_it, NameRule}

abbrev pub treatment_parts : Treatment → ℕ × Path
treatment_parts include_it = (0, [])
treatment_parts exclude_it = (1, [])
treatment_parts (compute_it path) = (2, path)

abbrev pub treatment_from : ℕ × Path → Treatment
treatment_from parts = if parts.0 == 0 then include_it else if parts.0 == 1 then exclude_it else compute_it parts.1

abbrev pub treatment_back : (t : Treatment) → treatment_from (treatment_parts t) ≡ t
treatment_back include_it = refl
treatment_back exclude_it = refl
treatment_back (compute_it path) = refl

abbrev pub path_code : Coded Path
path_code = coded_list (coded_list coded_ℕ)

abbrev pub treatment_code : Coded Treatment
treatment_code = code_by (ℕ × Path) (coded× coded_ℕ path_code) treatment_parts treatment_from treatment_back

abbrev pub rule_code : Coded NameRule
rule_code =
    code_by (List ℕ × Treatment) (coded× (coded_list coded_ℕ) treatment_code) (λ r. (r.name, r.treatment)) (λ p. record { name = p.0; treatment = p.1 })
    (λ r. refl)

abbrev pub rules_code : Coded (List NameRule)
rules_code = coded_list rule_code
