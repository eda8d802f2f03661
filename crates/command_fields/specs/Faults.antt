-- The error of a fault of a statement's operands.
use Rattle.cluster_base.specs.declared.code.Code.TheVariants.{BadValue}
use Rattle.field_paths.specs.declared.path.ParseFault.{ParseFault}
use Rattle.field_paths.specs.declared.path.ParseFault.TheVariants as faults
use Rattle.command_fields.specs.declared.fault.CheckFault.{CheckFault}
use Rattle.command_fields.specs.declared.fault.CheckFault.TheVariants.{Refused, Memory}

abbrev pub fault_told : ParseFault → CheckFault
fault_told faults.Memory = Memory
fault_told fault = Refused BadValue
