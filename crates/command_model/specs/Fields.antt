-- The fields of a command, and of the documents nested in it (MongoDB manual, "Database Commands"; the order of refusals is own). A rule is a name with a
-- check of its value. A field is refused where its name occurred before, and else where its value fails the check.
use Rattle.std.specs.Prelude.{ℕ, ℤ, pos, negsuc, ◌^◌, nat_lt, List, [], ◌∷◌, length, Bool, false, ◌&&◌, Option, Some, None, ◌==◌, if◌then◌else◌, codes}
use Rattle.std.specs.Str.{bytes_eq}
use Rattle.bson_model.specs.Tree.{Datum, string_value, document_value, binary_value, boolean_value, timestamp_value, Fields, no_fields, field, get}
use Rattle.pipeline_model.specs.Operands.{whole_number}
use Rattle.base_model.specs.Errors.{bad_value, failed_to_parse, type_mismatch}
use Rattle.command_model.specs.Checks.{Verdict, first_of, is_one_of, unless_passes}

pub record Rule : Type 0 where
  pub name : List ℕ
  pub check : Datum → Verdict

abbrev pub find_rule : List ℕ → List Rule → Option Rule
find_rule name [] = None
find_rule name (rule ∷ rules) = if bytes_eq rule.name name then Some rule else find_rule name rules

-- the error of a value by a rule, given whether its name occurred before; where there is no rule, the error of fields that are not listed
abbrev pub by_rule : Verdict → Option Rule → (given : Bool) → Datum → Verdict
by_rule unlisted None given value = unlisted
by_rule unlisted (Some rule) given value = if given then Some failed_to_parse else rule.check value

-- the fields in order, after those with these names
abbrev pub check_fields : Verdict → List Rule → List (List ℕ) → Fields → Verdict
check_fields unlisted rules given no_fields = None
check_fields unlisted rules given (field name value ms) =
    first_of (by_rule unlisted (find_rule name rules) (is_one_of name given) value ∷ check_fields unlisted rules (name ∷ given) ms ∷ [])

-- the fields of a document nested in a command: only those that are listed
abbrev pub check_inner_fields : List Rule → Fields → Verdict
check_inner_fields rules ms = check_fields (Some failed_to_parse) rules [] ms

abbrev pub names_of : Fields → List (List ℕ)
names_of no_fields = []
names_of (field name value ms) = name ∷ names_of ms

-- a field that is required
abbrev pub check_required : List ℕ → Fields → Verdict
check_required name ms = elim (get name ms) [ None ↦ Some failed_to_parse | Some value ↦ None ]

abbrev pub any_value : Datum → Verdict
any_value value = None

abbrev pub boolean_needed : Datum → Verdict
boolean_needed (boolean_value b) = None
boolean_needed value = Some type_mismatch

-- false, which is the same as no field; any other value is refused as a field that is not listed
abbrev pub false_needed : Datum → Verdict
false_needed (boolean_value false) = None
false_needed value = Some failed_to_parse

-- one check for each of these names
abbrev pub rules_by : (Datum → Verdict) → List (List ℕ) → List Rule
rules_by check [] = []
rules_by check (name ∷ names) = record { name = name; check = check } ∷ rules_by check names

abbrev pub boolean_or : Bool → Option Datum → Bool
boolean_or other (Some (boolean_value b)) = b
boolean_or other value = other

abbrev pub string_needed : Datum → Verdict
string_needed (string_value s) = None
string_needed value = Some type_mismatch

abbrev pub timestamp_needed : Datum → Verdict
timestamp_needed (timestamp_value n) = None
timestamp_needed value = Some type_mismatch

-- a document that passes a check
abbrev pub document_needed : (Fields → Verdict) → Datum → Verdict
document_needed check (document_value ms) = check ms
document_needed check value = Some type_mismatch

-- {id: binary of subtype 4 with 16 bytes}
abbrev pub session_id : Datum → Verdict
session_id (binary_value subtype content) = unless_passes (subtype == 4 && length content == 16) bad_value
session_id value = Some type_mismatch

abbrev pub session_rules : List Rule
session_rules = record { name = codes "id"; check = session_id } ∷ []

abbrev pub check_session : Fields → Verdict
check_session ms = first_of (check_inner_fields session_rules ms ∷ check_required (codes "id") ms ∷ [])

-- a number of milliseconds, from 0 to 2^31 - 1 (MongoDB manual, "maxTimeMS")
abbrev pub is_time_limit : ℤ → Bool
is_time_limit (pos n) = nat_lt n (2 ^ 31)
is_time_limit (negsuc n) = false

abbrev pub time_limit_needed : Datum → Verdict
time_limit_needed value = elim (whole_number value) [ None ↦ Some type_mismatch | Some n ↦ unless_passes (is_time_limit n) bad_value ]

-- the fields that every command may have
abbrev pub common_rules : List Rule
common_rules =
    record { name = codes "$db"; check = string_needed }
    ∷ record { name = codes "lsid"; check = document_needed check_session }
    ∷ record { name = codes "$clusterTime"; check = any_value }
    ∷ record { name = codes "$readPreference"; check = any_value }
    ∷ record { name = codes "comment"; check = any_value }
    ∷ record { name = codes "maxTimeMS"; check = time_limit_needed }
    ∷ record { name = codes "apiVersion"; check = string_needed }
    ∷ record { name = codes "apiStrict"; check = boolean_needed }
    ∷ record { name = codes "apiDeprecationErrors"; check = boolean_needed }
    ∷ []
