-- What is read from a collection, at which time, and in which batches (MongoDB manual, "find", "aggregate", "count", "Read Concern", "Cursor Batches"; the
-- order of refusals is own).
use Rattle.std.specs.Prelude.{ℕ, List, [], ◌∷◌, Bool, false, ◌&&◌, not, Option, Some, None, Result, Ok, Err, is_some, nat_lt, codes, if◌then◌else◌}
use Rattle.std.specs.Str.{bytes_eq}
use Rattle.bson_model.specs.Tree.{Datum, string_value, document_value, timestamp_value, Fields, get}
use Rattle.base_model.specs.Errors.{bad_value, type_mismatch}
use Rattle.query_model.specs.Queries.{QueryFault}
use Rattle.pipeline_model.specs.Operands.{whole_number}
use Rattle.pipeline_model.specs.Stages.{Stage, as_natural, read_natural}
use Rattle.command_model.specs.Checks.{Verdict, first_of, is_one_of, unless_passes}
use Rattle.command_model.specs.Fields.{Rule, check_inner_fields, timestamp_needed}

-- to return the result of these stages on the collection at a time: at the one that is named, or at one that is not before `after`
pub record Reading : Type 0 where
  pub namespace : List ℕ
  pub stages : List Stage
  pub at : Option ℕ
  pub after : Option ℕ

-- the greatest size of the first batch, where one is given; `single`: no other batch is requested
pub record Batches : Type 0 where
  pub size : Option ℕ
  pub single : Bool

-- OPERANDS OF A PIPELINE

-- an operand that can't be read is refused at its field
abbrev pub unless_faulty : {A : Type 0} → Result A QueryFault → Verdict
unless_faulty (Ok x) = None
unless_faulty (Err fault) = Some bad_value

-- WHOLE NUMBERS

-- a whole number that is not negative; no message has one of 2^63 or more
abbrev pub natural_needed : Datum → Verdict
natural_needed value = elim (whole_number value) [ None ↦ Some type_mismatch | Some n ↦ unless_faulty (as_natural n) ]

-- the number in a field, if it is there
abbrev pub number_given : List ℕ → Fields → Option ℕ
number_given name ms = elim (get name ms) [ None ↦ None | Some value ↦ elim (read_natural value) [ Ok n ↦ Some n | Err fault ↦ None ] ]

-- the same, where 0 is like no field
abbrev pub unless_zero : Option ℕ → Option ℕ
unless_zero None = None
unless_zero (Some n) = if nat_lt 0 n then Some n else None

-- READ CONCERN

abbrev pub levels : List (List ℕ)
levels = codes "local" ∷ codes "majority" ∷ codes "available" ∷ codes "snapshot" ∷ []

abbrev pub check_level : Datum → Verdict
check_level (string_value s) = unless_passes (is_one_of s levels) bad_value
check_level value = Some type_mismatch

abbrev pub is_snapshot : Option Datum → Bool
is_snapshot (Some (string_value s)) = bytes_eq s (codes "snapshot")
is_snapshot value = false

abbrev pub concern_rules : List Rule
concern_rules =
    record { name = codes "level"; check = check_level }
    ∷ record { name = codes "atClusterTime"; check = timestamp_needed }
    ∷ record { name = codes "afterClusterTime"; check = timestamp_needed }
    ∷ []

-- a time is named only with the level snapshot, and not together with a time to be reached
abbrev pub may_name_time : Fields → Bool
may_name_time ms = is_snapshot (get (codes "level") ms) && not (is_some (get (codes "afterClusterTime") ms))

abbrev pub check_concern : Fields → Verdict
check_concern ms =
    first_of
    (check_inner_fields concern_rules ms
    ∷ elim (get (codes "atClusterTime") ms) [ None ↦ None | Some value ↦ unless_passes (may_name_time ms) bad_value ]
    ∷ [])

-- a time in a field of the read concern
abbrev pub time_given : List ℕ → Option Datum → Option ℕ
time_given name (Some (document_value ms)) = elim (get name ms) [ None ↦ None | Some d ↦ elim d [ timestamp_value n ↦ Some n | other ↦ None ] ]
time_given name value = None
