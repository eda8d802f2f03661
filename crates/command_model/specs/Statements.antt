-- The statements of write commands, each a document (MongoDB manual, "insert", "update", "delete"; the order of refusals is own).
use Rattle.std.specs.Prelude.{ℕ, List, [], ◌∷◌, Option, Some, None, Ok, Err}
use Rattle.bson_model.specs.Tree.{Datum, document_value, Fields, no_fields}
use Rattle.value_model.specs.Keys.{is_key, key_of}
use Rattle.query_model.specs.DocumentKeys.{key_asked_in}
use Rattle.history_model.specs.History.{Operation, insert_operation, update_operation, delete_operation, read_operation}
use Rattle.base_model.specs.Errors.{bad_value, shard_key_not_found}
use Rattle.command_model.specs.Checks.{Verdict, first_of, unless_passes}

-- what each write command has of its own: the field, or document sequence, with its statements; the check of the fields of one; and its operation
pub record StatementForm : Type 0 where
  pub identifier : List ℕ
  pub check : Fields → Verdict
  pub operation : Fields → Operation

-- the key that an operation requires, before its operands are read
abbrev pub key_asked_by : Operation → Option Datum
key_asked_by (insert_operation document) = key_of document
key_asked_by (update_operation filter words upsert) = key_asked_in filter
key_asked_by (delete_operation filter) = key_asked_in filter

abbrev pub check_key : Option Datum → Verdict
check_key None = Some shard_key_not_found
check_key (Some key) = unless_passes (is_key key) bad_value

-- the first fault of an operation's operands
abbrev pub check_words : Operation → Verdict
check_words operation = elim (read_operation operation) [ Ok write ↦ None | Err fault ↦ Some bad_value ]

-- one statement: its fields, its key, its operands
abbrev pub check_statement : StatementForm → Fields → Verdict
check_statement form statement = first_of (form.check statement ∷ check_key (key_asked_by (form.operation statement)) ∷ check_words (form.operation statement) ∷ [])

-- the statements in order
abbrev pub check_statements : StatementForm → List Fields → Verdict
check_statements form [] = None
check_statements form (statement ∷ statements) = first_of (check_statement form statement ∷ check_statements form statements ∷ [])

abbrev pub document_or_none : Option Datum → Fields
document_or_none (Some (document_value ms)) = ms
document_or_none value = no_fields
