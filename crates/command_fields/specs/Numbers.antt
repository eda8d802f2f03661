-- Numbers that are read.
use Rattle.std.specs.Prelude.{Option, Some, None, Result, Ok, Err}
use Rattle.query_model.specs.Queries.{QueryFault}

-- what is read, where it can be read
abbrev pub if_read : {A : Type 0} → Result A QueryFault → Option A
if_read read = elim read [ Ok x ↦ Some x | Err fault ↦ None ]
