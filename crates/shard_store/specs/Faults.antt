-- Why statements change nothing, by the errors that they return (MongoDB manual, "Error Codes").
use Rattle.std.specs.Prelude.{◌≡◌, ℤ, pos, Option, Some, None, if◌then◌else◌}
use Rattle.std.specs.Option.{option_map}
use Rattle.std.specs.Ordering.{int_eq}
use Rattle.node_model.specs.Errors.{ErrorCode, bad_value, type_mismatch, path_not_viable, immutable_field, object_too_large, duplicate_key}
use Rattle.record_model.specs.Records.{code_of}
use Rattle.update_ops.specs.declared.fault.ApplyFault.{ApplyFault}
use Rattle.update_ops.specs.declared.fault.ApplyFault.TheVariants as applied
use Rattle.shard_store.specs.declared.fault.WriteFault.{WriteFault}
use Rattle.shard_store.specs.declared.fault.WriteFault.TheVariants.{Duplicate, Immutable, Overflow, TooLarge, NotNumber, NotDocument}

-- the error that is returned
abbrev pub error_view : WriteFault → ErrorCode
error_view Duplicate = duplicate_key
error_view Immutable = immutable_field
error_view Overflow = bad_value
error_view TooLarge = object_too_large
error_view NotNumber = type_mismatch
error_view NotDocument = path_not_viable

-- its number, or 0
abbrev pub code_told : Option WriteFault → ℤ
code_told fault = code_of (option_map error_view fault)

-- the fault whose error has that number
abbrev pub fault_told : ℤ → Option WriteFault
fault_told code =
    if int_eq code (pos 11000) then Some Duplicate
    else if int_eq code (pos 66) then Some Immutable
    else if int_eq code (pos 2) then Some Overflow
    else if int_eq code (pos 10334) then Some TooLarge
    else if int_eq code (pos 14) then Some NotNumber
    else if int_eq code (pos 28) then Some NotDocument
    else None

-- the fault that a statement returns, where memory does not run out
abbrev pub applied_as : WriteFault → ApplyFault
applied_as Duplicate = applied.Duplicate
applied_as Immutable = applied.Immutable
applied_as Overflow = applied.Overflow
applied_as TooLarge = applied.TooLarge
applied_as NotNumber = applied.NotNumber
applied_as NotDocument = applied.NotDocument

abbrev pub IsFault : WriteFault → ApplyFault → Type 0
IsFault fault told = told ≡ applied_as fault
