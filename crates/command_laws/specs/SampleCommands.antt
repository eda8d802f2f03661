-- Requests to try the definitions on.
use Rattle.std.specs.Prelude.{ℕ, List, [], ◌∷◌, codes, false, pos}
use Rattle.bson_model.specs.Tree.{Datum, string_value, document_value, array_value, int32_value, Fields, no_fields, field, no_items, item}
use Rattle.query_model.specs.Queries.{Query, no_clauses, clause, path_clause, no_tests, test, eq_test}
use Rattle.opmsg_model.specs.Requests.{Body, Form, Request, msg_form, read_body}

-- a request with this body
abbrev pub sent_as : Form → Body → Request
sent_as form body = record { id = pos 1; more = false; form = form; body = body; bytes = [] }

abbrev pub message : Fields → Request
message document = sent_as msg_form (read_body document [])

-- a message with one document sequence of that identifier
abbrev pub with_sequence : Fields → List ℕ → List Fields → Request
with_sequence document identifier documents = sent_as msg_form (read_body document ((identifier, documents) ∷ []))

abbrev pub number_one : Datum
number_one = int32_value (pos 1)

abbrev pub id_only : Datum → Fields
id_only value = field (codes "_id") value no_fields

-- {insert: "c", documents: [document], $db: "d"}
abbrev pub insert_of : Fields → Fields
insert_of document =
    field (codes "insert") (string_value (codes "c"))
    (field (codes "documents") (array_value (item (document_value document) no_items))
    (field (codes "$db") (string_value (codes "d")) no_fields))

-- {$db: "d"}
abbrev pub database_d : Fields
database_d = field (codes "$db") (string_value (codes "d")) no_fields

-- {insert: "c", documents: [first, second], $db: "d"}
abbrev pub insert_two : Fields → Fields → Fields
insert_two first second =
    field (codes "insert") (string_value (codes "c"))
    (field (codes "documents") (array_value (item (document_value first) (item (document_value second) no_items)))
    database_d)

-- {insert: "c", ..}
abbrev pub insert_with : Fields → Fields
insert_with others = field (codes "insert") (string_value (codes "c")) others

-- {x: 1}
abbrev pub without_id : Fields
without_id = field (codes "x") number_one no_fields

-- {$set: {x: 1}}
abbrev pub change_one : Fields
change_one = field (codes "$set") (document_value without_id) no_fields

-- {q: filter, u: {$set: {x: 1}}, ..}
abbrev pub set_one : Fields → Fields → Fields
set_one filter others = field (codes "q") (document_value filter) (field (codes "u") (document_value change_one) others)

-- {q: filter, limit: limit}
abbrev pub taken_out : Fields → Datum → Fields
taken_out filter limit = field (codes "q") (document_value filter) (field (codes "limit") limit no_fields)

-- {update: "c", updates: [statement], $db: "d"}
abbrev pub update_with : Fields → Fields
update_with statement =
    field (codes "update") (string_value (codes "c")) (field (codes "updates") (array_value (item (document_value statement) no_items)) database_d)

-- {delete: "c", deletes: [statement], $db: "d"}
abbrev pub delete_with : Fields → Fields
delete_with statement =
    field (codes "delete") (string_value (codes "c")) (field (codes "deletes") (array_value (item (document_value statement) no_items)) database_d)

-- {update: "c", updates: [first, second], $db: "d"}
abbrev pub update_two : Fields → Fields → Fields
update_two first second =
    field (codes "update") (string_value (codes "c"))
    (field (codes "updates") (array_value (item (document_value first) (item (document_value second) no_items))) database_d)

-- {_id: 1, "a.b": 1}
abbrev pub dotted : Fields
dotted = field (codes "_id") number_one (field (codes "a.b") number_one no_fields)

-- the query that {_id: 1} reads as
abbrev pub id_is_one : Query
id_is_one = clause (path_clause (codes "_id" ∷ []) (test (eq_test number_one) no_tests)) no_clauses
