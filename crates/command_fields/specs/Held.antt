-- What is read before its turn to be checked.
use Rattle.std.specs.Prelude.{◌≡◌, Result, Ok, Err}
use Rattle.bson_values.specs.declared.text.Memory as memory
use Rattle.cluster_base.specs.declared.code.Code.{Code}
use Rattle.command_fields.specs.declared.fault.CheckFault.{CheckFault}
use Rattle.command_fields.specs.declared.fault.CheckFault.TheVariants.{Refused, Memory}

-- what was read is kept, and so is an error; out of memory is not
abbrev pub Held : {X : Type 0} → Result X CheckFault → Result (Result X Code) memory.Memory → Type 0
Held (Ok x) (Ok (Ok y)) = x ≡ y
Held (Err (Refused code)) (Ok (Err other)) = code ≡ other
Held (Err Memory) (Err none) = Unit {0}
Held read held = ⊥
