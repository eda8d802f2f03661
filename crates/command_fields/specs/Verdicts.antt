-- The program's checks, by the definitions.
use Rattle.std.specs.Prelude.{◌≡◌, Option, Some, None, Result, Ok, Err}
use Rattle.std.specs.Option.{option_map}
use Rattle.cluster_base.specs.Codes.{meaning_of}
use Rattle.cluster_base.specs.declared.code.Code.{Code}
use Rattle.command_model.specs.Checks.{Verdict}
use Rattle.command_fields.specs.declared.fault.CheckFault.{CheckFault}
use Rattle.command_fields.specs.declared.fault.CheckFault.TheVariants.{Refused, Memory}

abbrev pub verdict_view : Option Code → Verdict
verdict_view verdict = option_map meaning_of verdict

-- the result of a rule, if there is one
abbrev pub ruling_view : Option (Option Code) → Option Verdict
ruling_view ruling = option_map verdict_view ruling

-- what is read, where the check passes, or its error; nothing is said where memory runs out
abbrev pub ReadsBy : {X : Type 0} → (X → Type 0) → Result X CheckFault → Verdict → Type 0
ReadsBy reads (Ok x) verdict = (verdict ≡ None) × reads x
ReadsBy reads (Err (Refused code)) verdict = verdict ≡ Some (meaning_of code)
ReadsBy reads (Err Memory) verdict = Unit {0}
