-- The statements of `update` (MongoDB manual, "update"): each has a filter that names one `_id`, a change, and whether it is an upsert. `multi` then changes
-- nothing.
use Rattle.std.specs.Prelude.{List, [], ◌∷◌, false, None, codes}
use Rattle.bson_model.specs.Tree.{Fields, get}
use Rattle.history_model.specs.History.{Operation, update_operation}
use Rattle.command_model.specs.Checks.{Verdict, first_of}
use Rattle.command_model.specs.Fields.{Rule, boolean_needed, boolean_or, check_inner_fields, check_required, document_needed}
use Rattle.command_model.specs.Statements.{StatementForm, document_or_none}

abbrev pub update_rules : List Rule
update_rules =
    record { name = codes "q"; check = document_needed (λ ms. None) }
    ∷ record { name = codes "u"; check = document_needed (λ ms. None) }
    ∷ record { name = codes "upsert"; check = boolean_needed }
    ∷ record { name = codes "multi"; check = boolean_needed }
    ∷ []

abbrev pub check_update : Fields → Verdict
check_update statement =
    first_of (check_inner_fields update_rules statement ∷ check_required (codes "q") statement ∷ check_required (codes "u") statement ∷ [])

abbrev pub update_of : Fields → Operation
update_of statement =
    update_operation (document_or_none (get (codes "q") statement)) (document_or_none (get (codes "u") statement)) (boolean_or false (get (codes "upsert") statement))

abbrev pub update_statements : StatementForm
update_statements = record { identifier = codes "updates"; check = check_update; operation = update_of }
