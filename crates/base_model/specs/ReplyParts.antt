-- Parts of reply documents (MongoDB manual, "Command Response"; the fields' order is fixed here).
use Rattle.std.specs.Prelude.{ℕ, codes, Option, Some, None, pos}
use Rattle.bson_model.specs.Tree.{Datum, Fields, no_fields, field, string_value, document_value, int32_value, timestamp_value, get}
use Rattle.base_model.specs.Refusals.{Evidence, Refusal, evidence_document}

abbrev pub shown_if : Option Fields → Fields
shown_if None = no_fields
shown_if (Some document) = field (codes "evidence") (document_value document) no_fields

-- the evidence of an error, if any
abbrev pub evidence_shown : Evidence → Fields
evidence_shown evidence = shown_if (evidence_document evidence)

-- {index, code, errmsg, evidence if any}
abbrev pub write_error : ℕ → Refusal → Fields
write_error index refusal =
    field (codes "index") (int32_value (pos index))
    (field (codes "code") (int32_value (pos refusal.error.number))
    (field (codes "errmsg") (string_value refusal.error.name)
    (evidence_shown refusal.evidence)))

-- the reply to a request that is refused: ok 0, errmsg, code, codeName, evidence if any
abbrev pub refusal_reply : Refusal → Fields
refusal_reply refusal =
    field (codes "ok") (int32_value (pos 0))
    (field (codes "errmsg") (string_value refusal.error.name)
    (field (codes "code") (int32_value (pos refusal.error.number))
    (field (codes "codeName") (string_value refusal.error.name)
    (evidence_shown refusal.evidence))))

abbrev pub time_shown : Option Datum → Option ℕ
time_shown (Some (timestamp_value time)) = Some time
time_shown d = None

-- the operationTime that a reply shows, if it has one
abbrev pub operation_time : Option Fields → Option ℕ
operation_time None = None
operation_time (Some reply) = time_shown (get (codes "operationTime") reply)
