-- What reading a record answers, by whether its encoding is what was read.
use Rattle.std.specs.Prelude.{◌≡◌, Bool, true, false, Result, Ok, Err}
use Rattle.bson_values.specs.declared.text.Memory.{Memory}
use Rattle.record_parts.specs.declared.fault.RecordFault.{RecordFault}
use Rattle.record_parts.specs.declared.fault.RecordFault.TheVariants as fault

-- the result is what was read where it is the same, and there is none where it is another
abbrev pub IsDecided : {T : Type 0} → T → Result Bool Memory → Result T RecordFault → Type 0
IsDecided kept (Ok true) result = result ≡ Ok kept
IsDecided kept (Ok false) result = result ≡ Err fault.NoRecord
IsDecided kept (Err e) result = result ≡ Err fault.Memory
