-- The statements of `delete` (MongoDB manual, "delete"): each has a filter that names one `_id`. `limit`, which is 0 or 1, then changes nothing.
use Rattle.std.specs.Prelude.{pos, List, [], ◌∷◌, ◌||◌, Some, None, codes}
use Rattle.std.specs.Ordering.{int_eq}
use Rattle.bson_model.specs.Tree.{Datum, Fields, get}
use Rattle.pipeline_model.specs.Operands.{whole_number}
use Rattle.base_model.specs.Errors.{bad_value, type_mismatch}
use Rattle.history_model.specs.History.{Operation, delete_operation}
use Rattle.command_model.specs.Checks.{Verdict, first_of, unless_passes}
use Rattle.command_model.specs.Fields.{Rule, check_inner_fields, check_required, document_needed}
use Rattle.command_model.specs.Statements.{StatementForm, document_or_none}

abbrev pub limit_needed : Datum → Verdict
limit_needed value = elim (whole_number value) [ None ↦ Some type_mismatch | Some n ↦ unless_passes (int_eq n (pos 0) || int_eq n (pos 1)) bad_value ]

abbrev pub delete_rules : List Rule
delete_rules = record { name = codes "q"; check = document_needed (λ ms. None) } ∷ record { name = codes "limit"; check = limit_needed } ∷ []

abbrev pub check_delete : Fields → Verdict
check_delete statement =
    first_of (check_inner_fields delete_rules statement ∷ check_required (codes "q") statement ∷ check_required (codes "limit") statement ∷ [])

abbrev pub delete_of : Fields → Operation
delete_of statement = delete_operation (document_or_none (get (codes "q") statement))

abbrev pub delete_statements : StatementForm
delete_statements = record { identifier = codes "deletes"; check = check_delete; operation = delete_of }
