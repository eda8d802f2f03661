-- A code that determines an operation: its kind, its documents and whether it is an upsert.
use Rattle.std.specs.Prelude.{◌≡◌, ℕ, Bool, false, ◌==◌, if◌then◌else◌, refl}
use Rattle.std.specs.Coded.{Coded, code_by, coded×, coded_ℕ, coded_bool}
use Rattle.bson_values.specs.Code.{fields_code}
use Rattle.bson_model.specs.Tree.{Fields, no_fields}
use Rattle.history_model.specs.History.{Operation, insert_operation, update_operation, delete_operation}

abbrev pub OperationParts : Type 0
OperationParts = (ℕ × Bool) × (Fields × Fields)

abbrev pub operation_parts : Operation → OperationParts
operation_parts (insert_operation document) = ((1, false), (document, no_fields))
operation_parts (update_operation filter change upsert) = ((2, upsert), (filter, change))
operation_parts (delete_operation filter) = ((3, false), (filter, no_fields))

abbrev pub operation_from : OperationParts → Operation
operation_from p =
    if p.0.0 == 1 then insert_operation p.1.0
    else if p.0.0 == 2 then update_operation p.1.0 p.1.1 p.0.1
    else delete_operation p.1.0

pub operation_back : (o : Operation) → operation_from (operation_parts o) ≡ o
operation_back (insert_operation document) = refl
operation_back (update_operation filter change upsert) = refl
operation_back (delete_operation filter) = refl

abbrev pub operation_code : Coded Operation
operation_code = code_by OperationParts (coded× (coded× coded_ℕ coded_bool) (coded× fields_code fields_code)) operation_parts operation_from operation_back
