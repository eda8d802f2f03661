-- Write commands of sessions, with and without their clients' numbers, to try the definitions on.
use Rattle.std.specs.Prelude.{ℕ, ℤ, List, [], ◌∷◌, Option, Some, true, false, codes}
use Rattle.bson_model.specs.Tree.{Datum, string_value, document_value, array_value, binary_value, no_items, item, Fields, no_fields, field, joined}
use Rattle.opmsg_model.specs.Requests.{Request}
use Rattle.history_model.specs.History.{insert_operation, update_operation, delete_operation}
use Rattle.command_model.specs.Writes.{ClientNumber, WriteCommand, insert_kind, update_kind, delete_kind}
use Rattle.command_laws.specs.SampleCommands.{change_one, database_d, id_only, message, number_one, set_one, taken_out}

-- 15 bytes
abbrev pub fifteen_sevens : List ℕ
fifteen_sevens = 7 ∷ 7 ∷ 7 ∷ 7 ∷ 7 ∷ 7 ∷ 7 ∷ 7 ∷ 7 ∷ 7 ∷ 7 ∷ 7 ∷ 7 ∷ 7 ∷ 7 ∷ []

-- the 16 bytes of a session
abbrev pub sevens : List ℕ
sevens = 7 ∷ fifteen_sevens

-- lsid: {id: bytes of this subtype, ..}, ..
abbrev pub session_of : (subtype : ℕ) → List ℕ → (more others : Fields) → Fields
session_of subtype content more others = field (codes "lsid") (document_value (field (codes "id") (binary_value subtype content) more)) others

-- lsid of that session, ..
abbrev pub in_session : Fields → Fields
in_session others = session_of 4 sevens no_fields others

-- txnNumber: number, ..
abbrev pub transaction : Datum → Fields → Fields
transaction number others = field (codes "txnNumber") number others

-- lsid of that session, txnNumber: number
abbrev pub numbered : Datum → Fields
numbered number = in_session (transaction number no_fields)

-- {insert: "c", documents: [document], .., $db: "d"}
abbrev pub insert_so : Fields → Fields → Request
insert_so document others =
    message
    (field (codes "insert") (string_value (codes "c"))
    (field (codes "documents") (array_value (item (document_value document) no_items)) (joined others database_d)))

-- {insert: "c", documents: [{_id: 1}], .., $db: "d"}
abbrev pub insert_one : Fields → Request
insert_one others = insert_so (id_only number_one) others

-- {update: "c", updates: [{q: {_id: 1}, u: {$set: {x: 1}}}], .., $db: "d"}
abbrev pub update_one : Fields → Request
update_one others =
    message
    (field (codes "update") (string_value (codes "c"))
    (field (codes "updates") (array_value (item (document_value (set_one (id_only number_one) no_fields)) no_items)) (joined others database_d)))

-- {delete: "c", deletes: [{q: {_id: 1}, limit: 1}], .., $db: "d"}
abbrev pub delete_one : Fields → Request
delete_one others =
    message
    (field (codes "delete") (string_value (codes "c"))
    (field (codes "deletes") (array_value (item (document_value (taken_out (id_only number_one) number_one)) no_items)) (joined others database_d)))

-- the number of that session with this transaction
abbrev pub number_of : ℤ → Option ClientNumber
number_of n = Some (record { session = sevens; transaction = n })

-- the commands of these requests, with a number or without one
abbrev pub one_inserted : Option ClientNumber → WriteCommand
one_inserted number = record {
  kind = insert_kind;
  namespace = codes "d.c";
  operations = insert_operation (id_only number_one) ∷ [];
  ordered = true;
  number = number;
}

abbrev pub one_updated : Option ClientNumber → WriteCommand
one_updated number = record {
  kind = update_kind;
  namespace = codes "d.c";
  operations = update_operation (id_only number_one) change_one false ∷ [];
  ordered = true;
  number = number;
}

abbrev pub one_deleted : Option ClientNumber → WriteCommand
one_deleted number = record {
  kind = delete_kind;
  namespace = codes "d.c";
  operations = delete_operation (id_only number_one) ∷ [];
  ordered = true;
  number = number;
}
