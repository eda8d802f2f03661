-- What a statement returns: the result by the definitions, or their fault.
use Rattle.std.specs.Prelude.{◌≡◌, Result, Ok, Err}
use Rattle.query_model.specs.Edits.{WriteFault, duplicate_fault, immutable_fault, overflow_fault, too_large_fault, not_number_fault, not_document_fault}
use Rattle.update_ops.specs.declared.fault.ApplyFault.{ApplyFault}
use Rattle.update_ops.specs.declared.fault.ApplyFault.TheVariants.{Duplicate, Immutable, Overflow, TooLarge, NotNumber, NotDocument, Memory}

-- Unless memory runs out, an error is this fault.
abbrev pub Fails : {Y : Type 0} → ApplyFault → Result Y WriteFault → Type 0
Fails Duplicate made = made ≡ Err duplicate_fault
Fails Immutable made = made ≡ Err immutable_fault
Fails Overflow made = made ≡ Err overflow_fault
Fails TooLarge made = made ≡ Err too_large_fault
Fails NotNumber made = made ≡ Err not_number_fault
Fails NotDocument made = made ≡ Err not_document_fault
Fails Memory made = Unit {0}

-- Unless memory runs out, the result of a function, seen by `view`, is this result of applying.
abbrev pub Gives : {X Y : Type 0} → (X → Y) → Result X ApplyFault → Result Y WriteFault → Type 0
Gives view (Ok x) made = made ≡ Ok (view x)
Gives view (Err e) made = Fails e made
