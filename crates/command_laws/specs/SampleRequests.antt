-- Requests of one collection, with their answers, to try the definitions on.
use Rattle.std.specs.Prelude.{ℕ, List, [], ◌∷◌, codes, Option, Some, None, Bool, pos, if◌then◌else◌, false}
use Rattle.bson_model.specs.Tree.{Datum, string_value, document_value, array_value, boolean_value, int32_value, int64_value, timestamp_value, no_items, item, Fields, no_fields, field, joined}
use Rattle.bson_model.specs.Spelling.{written}
use Rattle.bson_model.specs.Faults.{Fault}
use Rattle.opmsg_model.specs.Requests.{Request, msg_form, query_form, read_body, faulty_body, msg_bytes, query_bytes}
use Rattle.opmsg_model.specs.Sections.{body_section}
use Rattle.bson_model.specs.SampleDocuments.{nested}
use Rattle.base_model.specs.Times.{timestamp}
use Rattle.command_model.specs.AnswerParts.{document_items}
use Rattle.command_model.specs.Answers.{first_answer, answer_document}

-- {_id: key}
abbrev pub with_id : Datum → Fields
with_id key = field (codes "_id") key no_fields

-- five in 32 bits and in 64, which are one key
abbrev pub five : Datum
five = int32_value (pos 5)

abbrev pub long_five : Datum
long_five = int64_value (pos 5)

abbrev pub six : Datum
six = int32_value (pos 6)

-- {insert: "c", documents: [..], ordered: .., $db: "d"}
abbrev pub insert_body : List Fields → Bool → Fields
insert_body documents ordered =
    field (codes "insert") (string_value (codes "c"))
    (field (codes "documents") (array_value (document_items documents))
    (field (codes "ordered") (boolean_value ordered)
    (field (codes "$db") (string_value (codes "d")) no_fields)))

-- readConcern: {level: "snapshot", atClusterTime: time}, where a time is named (MongoDB manual, "Read Concern")
abbrev pub concern_named : Option ℕ → Fields
concern_named None = no_fields
concern_named (Some time) =
    field (codes "readConcern") (document_value (field (codes "level") (string_value (codes "snapshot")) (field (codes "atClusterTime") (timestamp_value time) no_fields))) no_fields

-- {find: "c", filter: {_id: key}, $db: "d"}, with readConcern: {level: "snapshot", atClusterTime: ..} where a time is named
abbrev pub find_body : Datum → Option ℕ → Fields
find_body key at =
    field (codes "find") (string_value (codes "c"))
    (field (codes "filter") (document_value (with_id key))
    (joined (concern_named at)
    (field (codes "$db") (string_value (codes "d")) no_fields)))

-- a message with that number and document, and whether it says moreToCome
abbrev pub request : ℕ → Bool → Fields → Request
request number more document = record {
  id = pos number;
  more = more;
  form = msg_form;
  body = read_body document [];
  bytes = msg_bytes number 0 (if more then 2 else 0) (body_section (written document) ∷ []);
}

-- {isMaster: 1} in the old form
abbrev pub greeting : Request
greeting = record {
  id = pos 1;
  more = false;
  form = query_form;
  body = read_body (field (codes "isMaster") (int32_value (pos 1)) no_fields) [];
  bytes = query_bytes 1 0 0 0 1 (written (field (codes "isMaster") (int32_value (pos 1)) no_fields));
}

-- a message whose document has a fault at this offset
abbrev pub faulty : Fault → ℕ → Request
faulty fault place = record (request 1 false no_fields) { body = faulty_body fault place }

-- {cursor: {.., firstBatch: [..], atClusterTime: Timestamp(1000, ..)}, ok: 1, operationTime: Timestamp(1000, ..)}
abbrev pub shown : List Fields → ℕ → Fields
shown documents counter = answer_document (first_answer (record { cursor = pos 0; namespace = codes "d.c"; documents = documents; time = timestamp 1000 counter }))

-- {_id: 5}, {_id: 5L} and {_id: 6}
abbrev pub three : List Fields
three = with_id five ∷ with_id long_five ∷ with_id six ∷ []

-- {n: .., writeErrors: [{index: 1, code: 11000, errmsg: "DuplicateKey"}], ok: 1, operationTime: Timestamp(1000, ..)}
abbrev pub second_fails : ℕ → ℕ → Fields
second_fails count counter =
    field (codes "n") (int32_value (pos count))
    (field (codes "writeErrors")
    (array_value
    (item
    (document_value
    (field (codes "index") (int32_value (pos 1))
    (field (codes "code") (int32_value (pos 11000))
    (field (codes "errmsg") (string_value (codes "DuplicateKey")) no_fields))))
    no_items))
    (field (codes "ok") (int32_value (pos 1))
    (field (codes "operationTime") (timestamp_value (timestamp 1000 counter)) no_fields)))

-- a document of depth 101
abbrev pub deep : Fields
deep = field (codes "_id") five (field (codes "a") (document_value (nested 99)) no_fields)

-- {n: 0, writeErrors: [{index: 0, code: 10334, errmsg: "BSONObjectTooLarge"}], ok: 1, operationTime: Timestamp(1000, 2)}
abbrev pub too_large_reply : Fields
too_large_reply =
    field (codes "n") (int32_value (pos 0))
    (field (codes "writeErrors")
    (array_value
    (item
    (document_value
    (field (codes "index") (int32_value (pos 0))
    (field (codes "code") (int32_value (pos 10334))
    (field (codes "errmsg") (string_value (codes "BSONObjectTooLarge")) no_fields))))
    no_items))
    (field (codes "ok") (int32_value (pos 1))
    (field (codes "operationTime") (timestamp_value (timestamp 1000 2)) no_fields)))
