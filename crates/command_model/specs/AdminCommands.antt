-- What commands share that are sent to the database `admin` and act on a collection: their own field is its full name (MongoDB manual, "shardCollection",
-- "split"; the order of refusals and of the answer's fields is own).
use Rattle.std.specs.Prelude.{ℕ, List, Bool, ◌&&◌, ◌==◌, Option, Some, None, if◌then◌else◌, codes, is_some}
use Rattle.std.specs.List.{after_first, before_first}
use Rattle.std.specs.Str.{bytes_eq}
use Rattle.bson_model.specs.Tree.{Datum, string_value, document_value, Fields, no_fields, field}
use Rattle.value_model.specs.Keys.{is_key}
use Rattle.base_model.specs.Errors.{bad_value, invalid_namespace, type_mismatch}
use Rattle.base_model.specs.Names.{is_open_namespace}
use Rattle.command_model.specs.AnswerParts.{ok, operation_time_at}
use Rattle.command_model.specs.Checks.{Verdict, unless_passes}
use Rattle.command_model.specs.Fields.{document_needed}

abbrev pub is_dot : ℕ → Bool
is_dot b = b == 46

-- a full name whose database and collection, before and after its first dot, make a namespace that clients may use
abbrev pub is_open_name : List ℕ → Bool
is_open_name name = is_open_namespace (before_first is_dot name) (after_first is_dot name)

-- an own field that names a collection by its full name, in a command that is sent to the database `admin`
abbrev pub check_full_name : (database : List ℕ) → Datum → Verdict
check_full_name database (string_value name) = unless_passes (bytes_eq database (codes "admin") && is_open_name name) invalid_namespace
check_full_name database value = Some type_mismatch

-- the value in {_id: value}, a document of this one field
abbrev pub only_id : Fields → Option Datum
only_id (field name value no_fields) = if bytes_eq name (codes "_id") then Some value else None
only_id ms = None

-- the same where the value is a key
abbrev pub only_key : Fields → Option Datum
only_key ms = elim (only_id ms) [ None ↦ None | Some value ↦ if is_key value then Some value else None ]

abbrev pub key_needed : Datum → Verdict
key_needed = document_needed (λ ms. unless_passes (is_some (only_key ms)) bad_value)

-- the key in a field, if it is such a document
abbrev pub key_given : Option Datum → Option Datum
key_given (Some (document_value ms)) = only_key ms
key_given value = None

-- the answer to a command that changed the chunks of a collection
abbrev pub changed_document : (time : ℕ) → Fields
changed_document time = ok (operation_time_at time)
