-- The versions of what is stored under one key (MongoDB manual, "Read Concern \"snapshot\"").
use Rattle.std.specs.Prelude.{ℕ, List, [], ◌∷◌, Option, Some, None, nat_le, if◌then◌else◌, refl}
use Rattle.std.specs.Option.{unwrap_or}
use Rattle.std.specs.Coded.{Coded, code_by, coded×, coded_ℕ, coded_list, coded_option}
use Rattle.bson_values.specs.Tree.{Fields}
use Rattle.bson_values.specs.Code.{fields_code}

-- a time, and what is stored under the key from then on: a document, or none
abbrev pub Dated : Type 0
Dated = ℕ × Option Fields

-- the versions under a key in the order in which they were put, and for how many more there is room
pub record Past : Type 0 where
  pub versions : List Dated
  pub room : ℕ

abbrev pub past_code : Coded Past
past_code =
    code_by (List Dated × ℕ) (coded× (coded_list (coded× coded_ℕ (coded_option fields_code))) coded_ℕ)
    (λ p. (p.versions, p.room)) (λ p. record { versions = p.0; room = p.1 }) (λ p. refl)

-- what versions result in at a time, given what was stored there before: that of the last one that is no later
abbrev pub left_after : Option Fields → List Dated → ℕ → Option Fields
left_after before [] time = before
left_after before (v ∷ vs) time = left_after (if nat_le v.0 time then v.1 else before) vs time

abbrev pub document_left : List Dated → ℕ → Option Fields
document_left versions time = left_after None versions time

-- the time of the last version
abbrev pub last_time : List Dated → Option ℕ
last_time [] = None
last_time (v ∷ vs) = Some (unwrap_or (last_time vs) v.0)
