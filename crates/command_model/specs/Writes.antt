-- Write commands: `insert`, `update` and `delete` (MongoDB manual, "insert", "update", "delete"; the order of refusals and of the
-- answer's fields is own).
use Rattle.std.specs.Prelude.{ℕ, ℤ, pos, List, [], ◌∷◌, length, map, Bool, true, ◌&&◌, Option, Some, None, nat_le, codes}
use Rattle.bson_model.specs.Tree.{Datum, document_value, array_value, binary_value, Items, no_items, item, Fields, no_fields, field, get}
use Rattle.std.specs.Option.{unwrap_or}
use Rattle.pipeline_model.specs.Operands.{whole_number}
use Rattle.history_model.specs.History.{Operation}
use Rattle.base_model.specs.Errors.{bad_value, failed_to_parse, type_mismatch}
use Rattle.base_model.specs.Refusals.{Refusal}
use Rattle.base_model.specs.Names.{full_name}
use Rattle.base_model.specs.ReplyParts.{write_error}
use Rattle.command_model.specs.Checks.{Verdict, first_of, unless_passes}
use Rattle.command_model.specs.Fields.{Rule, boolean_needed, boolean_or, check_required, common_rules, document_needed}
use Rattle.command_model.specs.Forms.{CommandForm, Sequences, check_collection, string_or}
use Rattle.command_model.specs.AnswerParts.{count, number, ok, operation_time_at}
use Rattle.command_model.specs.CommandLimits.{most_statements}
use Rattle.command_model.specs.Statements.{StatementForm, check_statements}
use Rattle.command_model.specs.Insert.{insert_statements}
use Rattle.command_model.specs.Update.{update_statements}
use Rattle.command_model.specs.Delete.{delete_statements}

pub data WriteKind : Type 0 where
  insert_kind : WriteKind
  update_kind : WriteKind
  delete_kind : WriteKind

abbrev pub statement_form : WriteKind → StatementForm
statement_form insert_kind = insert_statements
statement_form update_kind = update_statements
statement_form delete_kind = delete_statements

-- how a client numbers the statements of a command: by the 16 bytes of its session and a transaction, each with its index from 0
pub record ClientNumber : Type 0 where
  pub session : List ℕ
  pub transaction : ℤ

-- to apply these operations to a collection, in order; `ordered`: the first error ends it; `number`: the client's, if it gives one
pub record WriteCommand : Type 0 where
  pub kind : WriteKind
  pub namespace : List ℕ
  pub operations : List Operation
  pub ordered : Bool
  pub number : Option ClientNumber

-- the values of an array that are documents; none if one is no document
abbrev pub documents_in : Items → Option (List Fields)
documents_in no_items = Some []
documents_in (item (document_value ms) ds) = elim (documents_in ds) [ None ↦ None | Some documents ↦ Some (ms ∷ documents) ]
documents_in (item d ds) = None

-- as many statements as a command may have
abbrev pub is_statement_count : ℕ → Bool
is_statement_count n = nat_le 1 n && nat_le n most_statements

abbrev pub check_count : List Fields → Verdict
check_count documents = unless_passes (is_statement_count (length documents)) bad_value

abbrev pub check_documents : Option (List Fields) → Verdict
check_documents None = Some type_mismatch
check_documents (Some documents) = check_count documents

abbrev pub documents_needed : Datum → Verdict
documents_needed (array_value ds) = check_documents (documents_in ds)
documents_needed value = Some type_mismatch

-- a whole number, also below 0
abbrev pub whole_needed : Datum → Verdict
whole_needed value = elim (whole_number value) [ None ↦ Some type_mismatch | Some n ↦ None ]

-- a transaction's number requires a session
abbrev pub session_needed : Fields → Verdict
session_needed document = elim (get (codes "txnNumber") document) [ None ↦ None | Some value ↦ check_required (codes "lsid") document ]

abbrev pub session_bytes : Option Datum → List ℕ
session_bytes (Some (binary_value subtype content)) = content
session_bytes value = []

abbrev pub session_in : Option Datum → List ℕ
session_in (Some (document_value ms)) = session_bytes (get (codes "id") ms)
session_in value = []

-- a session without a transaction numbers nothing
abbrev pub number_given : Fields → Option ClientNumber
number_given document = elim (get (codes "txnNumber") document) [
  | None ↦ None
  | Some value ↦ Some (record { session = session_in (get (codes "lsid") document); transaction = unwrap_or (whole_number value) (pos 0) })
]

abbrev pub write_rules : StatementForm → List Rule
write_rules form =
    record { name = form.identifier; check = documents_needed }
    ∷ record { name = codes "ordered"; check = boolean_needed }
    ∷ record { name = codes "writeConcern"; check = document_needed (λ ms. None) }
    ∷ record { name = codes "bypassDocumentValidation"; check = boolean_needed }
    ∷ record { name = codes "txnNumber"; check = whole_needed }
    ∷ common_rules

abbrev pub documents_of_value : Datum → Option (List Fields)
documents_of_value (array_value ds) = documents_in ds
documents_of_value value = None

-- the statements' documents, from the field or from the sequence
abbrev pub documents_asked : StatementForm → Fields → Sequences → Option (List Fields)
documents_asked form document sequences = elim (get form.identifier document) [
  | Some value ↦ documents_of_value value
  | None ↦ elim sequences [ [] ↦ None | s ∷ more ↦ Some s.1 ]
]

abbrev pub some_needed : Option (List Fields) → Verdict
some_needed None = Some failed_to_parse
some_needed (Some documents) = None

abbrev pub or_documents : Option (List Fields) → List Fields
or_documents None = []
or_documents (Some documents) = documents

abbrev pub write_form : WriteKind → CommandForm WriteCommand
write_form kind = record {
  check_own = check_collection;
  rules = λ database. write_rules (statement_form kind);
  unlisted = Some failed_to_parse;
  sequence = Some (record { identifier = (statement_form kind).identifier; check = check_count });
  check_needed = λ document sequences. first_of (some_needed (documents_asked (statement_form kind) document sequences) ∷ session_needed document ∷ []);
  check_last = λ document sequences. check_statements (statement_form kind) (or_documents (documents_asked (statement_form kind) document sequences));
  command = λ database own document sequences. record {
    kind = kind;
    namespace = full_name database (string_or [] (Some own));
    operations = map (statement_form kind).operation (or_documents (documents_asked (statement_form kind) document sequences));
    ordered = boolean_or true (get (codes "ordered") document);
    number = number_given document;
  };
}

-- the error of the statement with this index
pub record WriteError : Type 0 where
  pub index : ℕ
  pub refusal : Refusal

-- the key of the document that the statement with this index upserted
pub record Upserted : Type 0 where
  pub index : ℕ
  pub key : Datum

-- the joint outcome of the statements of a command: how many documents were inserted, matched or deleted, how many were changed, the upserted keys, the
-- errors, and the operation's time
pub record WriteSummary : Type 0 where
  pub count : ℕ
  pub modified : ℕ
  pub upserted : List Upserted
  pub errors : List WriteError
  pub time : ℕ

abbrev pub write_error_items : List WriteError → Items
write_error_items [] = no_items
write_error_items (e ∷ errors) = item (document_value (write_error e.index e.refusal)) (write_error_items errors)

abbrev pub write_errors_shown : List WriteError → Fields → Fields
write_errors_shown [] more = more
write_errors_shown (e ∷ errors) more = field (codes "writeErrors") (array_value (write_error_items (e ∷ errors))) more

abbrev pub upserted_items : List Upserted → Items
upserted_items [] = no_items
upserted_items (u ∷ upserted) =
    item (document_value (field (codes "index") (number u.index) (field (codes "_id") u.key no_fields))) (upserted_items upserted)

abbrev pub upserted_shown : List Upserted → Fields → Fields
upserted_shown [] more = more
upserted_shown (u ∷ upserted) more = field (codes "upserted") (array_value (upserted_items (u ∷ upserted))) more

-- the fields after the count: only for updates, what they changed and upserted
abbrev pub changes_shown : WriteKind → WriteSummary → Fields → Fields
changes_shown insert_kind told more = more
changes_shown update_kind told more = field (codes "nModified") (count told.modified) (upserted_shown told.upserted more)
changes_shown delete_kind told more = more

abbrev pub write_document : WriteKind → WriteSummary → Fields
write_document kind told =
    field (codes "n") (count told.count) (changes_shown kind told (write_errors_shown told.errors (ok (operation_time_at told.time))))
