-- The check of the session that a write names.
use Rattle.std.proofs.Common.{◌≡◌, ℕ, List, [], ◌∷◌, length, refl, Option, Some, None, codes}
use Rattle.std.specs.Prelude.{ℤ, pos}
use Rattle.std.specs.Option.{unwrap_or}
use Rattle.std.proofs.lemmas.Bool.{and_parts, eqb-true}
use Rattle.bson_model.specs.Tree.{Datum, document_value, binary_value, Fields, get}
use Rattle.command_model.specs.Checks.{Verdict}
use Rattle.base_model.specs.Errors.{bad_value, failed_to_parse}
use Rattle.command_model.specs.Fields.{check_inner_fields, check_required, check_session, document_needed, session_id, session_rules}
use Rattle.command_model.specs.Writes.{ClientNumber, session_bytes, session_in, number_given, session_needed}
use Rattle.command_model.proofs.Passed.{field_passed, passed_last, passed_parts, passed_test}
use Rattle.pipeline_model.specs.Operands.{whole_number}
use Rattle.command_fields.specs.Sessions.{HasSession}

-- an identifier that passes has 16 bytes
id_length : (value : Datum) → session_id value ≡ None → length (session_bytes (Some value)) ≡ 16
id_length (binary_value subtype content) e = eqb-true (length content) 16 (and_parts _ _ (passed_test _ bad_value e)).1
id_length value e = cc

id_got : (session : Fields) (id : Option Datum) → get (codes "id") session ≡ id → check_inner_fields session_rules session ≡ None →
    Path Verdict (elim id [ None ↦ Some failed_to_parse | Some value ↦ None ]) None → length (session_bytes id) ≡ 16
id_got session None got inner required = absurd cc
id_got session (Some value) got inner required = id_length value (field_passed session_rules [] session (codes "id") value inner got)

session_length : (value : Datum) → document_needed check_session value ≡ None → length (session_in (Some value)) ≡ 16
session_length (document_value session) e =
    let parts = passed_parts (check_inner_fields session_rules session) (check_required (codes "id") session ∷ []) e in
    id_got session (get (codes "id") session) refl parts.0 (passed_last (check_required (codes "id") session) parts.1)
session_length value e = cc

named_length : (document : Fields) (session : Option Datum) → HasSession document → get (codes "lsid") document ≡ session → Path Verdict (elim session [ None ↦ Some failed_to_parse | Some value ↦ None ]) None → length (session_in session) ≡ 16
named_length document None has got required = absurd cc
named_length document (Some value) has got required = session_length value (has value got)

lsid_required : (document : Fields) (transaction : Option Datum) (value : Datum) → transaction ≡ Some value → Path Verdict (elim transaction [ None ↦ None | Some n ↦ check_required (codes "lsid") document ]) None →
    check_required (codes "lsid") document ≡ None
lsid_required document None value got needed = absurd cc
lsid_required document (Some n) value got needed = needed

-- where a transaction is given, its session has 16 bytes
pub sixteen_bytes : (document : Fields) (value : Datum) → HasSession document → session_needed document ≡ None → get (codes "txnNumber") document ≡ Some value → length (session_in (get (codes "lsid") document)) ≡ 16
sixteen_bytes document value has needed got =
    named_length document (get (codes "lsid") document) has refl (lsid_required document (get (codes "txnNumber") document) value got needed)

number_of : (given : Option Datum) (value : Datum) (session found : List ℕ) (transaction : ℤ) → given ≡ Some value → session ≡ found → transaction ≡ unwrap_or (whole_number value) (pos 0) →
    Path (Option ClientNumber) (Some (record { session = session; transaction = transaction }))
    (elim given [ None ↦ None | Some value ↦ Some (record { session = found; transaction = unwrap_or (whole_number value) (pos 0) }) ])
number_of None value session found transaction got session_is transaction_is = absurd cc
number_of (Some given) value session found transaction got session_is transaction_is =
    let same : given ≡ value = cc in
    rw (session_is, transaction_is, same) refl

-- the number of a session and a transaction
pub number_is : (document : Fields) (value : Datum) (session : List ℕ) (transaction : ℤ) → get (codes "txnNumber") document ≡ Some value → session ≡ session_in (get (codes "lsid") document) →
    transaction ≡ unwrap_or (whole_number value) (pos 0) → Path (Option ClientNumber) (Some (record { session = session; transaction = transaction })) (number_given document)
number_is document value session transaction got session_is transaction_is =
    number_of (get (codes "txnNumber") document) value session (session_in (get (codes "lsid") document)) transaction got session_is transaction_is
