-- What reading a part of a record answers.
use Rattle.std.specs.Prelude.{◌≡◌, Option, Some, None, Result, Ok, Err}
use Rattle.bson_values.specs.declared.fault.BsonFault.{BsonFault}
use Rattle.bson_values.specs.declared.fault.BsonFault.TheVariants as bson
use Rattle.record_parts.specs.declared.fault.RecordFault.{RecordFault}
use Rattle.record_parts.specs.declared.fault.RecordFault.TheVariants.{NoRecord, Memory}

-- What a call returned, seen by view, is what is there, and nothing is there where it says so; where memory ran out nothing is
-- said.
abbrev pub Finds : {X Y : Type 0} → (X → Y) → Result X RecordFault → Option Y → Type 0
Finds view (Ok x) there = there ≡ Some (view x)
Finds view (Err NoRecord) there = there ≡ None
Finds view (Err Memory) there = Unit {0}

-- bytes that begin with no document are no record
abbrev pub fault_view : BsonFault → RecordFault
fault_view bson.Memory = Memory
fault_view fault = NoRecord
