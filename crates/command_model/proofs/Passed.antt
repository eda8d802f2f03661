-- What passes the checks: a field by its rule, statements by their number.
use Rattle.std.proofs.Common.{◌≡◌, ◌≢◌, ℕ, ◌≤◌, List, [], ◌∷◌, length, refl, Bool, true, false, Option, Some, None, if◌then◌else◌, subst}
use Rattle.std.specs.Str.{bytes_eq}
use Rattle.std.proofs.lemmas.Slice.Eq.{bytes_eq-Decides}
use Rattle.std.proofs.lemmas.Bool.{and_parts, leb-true}
use Rattle.bson_model.specs.Tree.{Datum, Fields, no_fields, field, get}
use Rattle.base_model.specs.Errors.{ErrorCode, bad_value, failed_to_parse}
use Rattle.command_model.specs.Checks.{Verdict, first_of, is_one_of, unless_passes}
use Rattle.command_model.specs.Fields.{Rule, by_rule, check_fields, find_rule}
use Rattle.command_model.specs.Writes.{check_count, is_statement_count}
use Rattle.command_model.specs.CommandLimits.{most_statements}

pub passed_parts : (v : Verdict) (vs : List Verdict) → first_of (v ∷ vs) ≡ None → (v ≡ None) × (first_of vs ≡ None)
passed_parts None vs e = (refl, e)
passed_parts (Some error) vs e = absurd cc

pub passed_last : (v : Verdict) → first_of (v ∷ []) ≡ None → v ≡ None
passed_last v e = (passed_parts v [] e).0

pub passed_test : (b : Bool) (error : ErrorCode) → unless_passes b error ≡ None → b ≡ true
passed_test true error e = refl
passed_test false error e = cc

pub passed_else : (b : Bool) (v : Verdict) → (if b then Some failed_to_parse else v) ≡ None → v ≡ None
passed_else true v e = cc
passed_else false v e = e

-- a value that passes by a rule passes the check of the rule
by_rule_passed : (o : Option Rule) (given : Bool) (value : Datum) → by_rule (Some failed_to_parse) o given value ≡ None → by_rule (Some failed_to_parse) o false value ≡ None
by_rule_passed None given value e = absurd cc
by_rule_passed (Some rule) true value e = absurd cc
by_rule_passed (Some rule) false value e = e

one_passed : (b : Bool) (rules : List Rule) (given : List (List ℕ)) (first name : List ℕ) (d value : Datum) (rest : Option Datum) →
    bytes_eq first name ≡ b → (if b then Some d else rest) ≡ Some value →
    by_rule (Some failed_to_parse) (find_rule first rules) (is_one_of first given) d ≡ None →
    (rest ≡ Some value → by_rule (Some failed_to_parse) (find_rule name rules) false value ≡ None) → by_rule (Some failed_to_parse) (find_rule name rules) false value ≡ None
one_passed true rules given first name d value rest is got told others =
    let same : first ≡ name = (bytes_eq-Decides first name).0 is in
    let value_is : d ≡ value = cc in
    let here : by_rule (Some failed_to_parse) (find_rule first rules) false d ≡ None = by_rule_passed (find_rule first rules) (is_one_of first given) d told in
    subst (λ (n : List ℕ). by_rule (Some failed_to_parse) (find_rule n rules) false value ≡ None) same (subst (λ (v : Datum). by_rule (Some failed_to_parse) (find_rule first rules) false v ≡ None) value_is here)
one_passed false rules given first name d value rest is got told others = others got

-- a field that is found passed its rule, where all fields without a rule are refused
pub field_passed : (rules : List Rule) (given : List (List ℕ)) (ms : Fields) (name : List ℕ) (value : Datum) → check_fields (Some failed_to_parse) rules given ms ≡ None → get name ms ≡ Some value → by_rule (Some failed_to_parse) (find_rule name rules) false value ≡ None
field_passed rules given no_fields name value e got = absurd cc
field_passed rules given (field first d ms) name value e got =
    let told = passed_parts (by_rule (Some failed_to_parse) (find_rule first rules) (is_one_of first given) d) (check_fields (Some failed_to_parse) rules (first ∷ given) ms ∷ []) e in
    let rest : check_fields (Some failed_to_parse) rules (first ∷ given) ms ≡ None = passed_last (check_fields (Some failed_to_parse) rules (first ∷ given) ms) told.1 in
    one_passed (bytes_eq first name) rules given first name d value (get name ms) refl got told.0 (λ later. field_passed rules (first ∷ given) ms name value rest later)

-- there are no more documents than a command may have
pub few_documents : (documents : List Fields) → check_count documents ≡ None → length documents ≤ most_statements
few_documents documents e =
    let count : is_statement_count (length documents) ≡ true = passed_test (is_statement_count (length documents)) bad_value e in
    leb-true (length documents) most_statements (and_parts _ _ count).1

-- and at least one
pub some_counted : (documents : List Fields) → check_count documents ≡ None → documents ≢ []
some_counted [] e none = absurd cc
some_counted (document ∷ documents) e none = absurd cc
