-- What a reader returns.
use Rattle.std.specs.Prelude.{◌≡◌, ℕ, Option, Some, None, Result, Ok, Err}
use Rattle.bson_model.specs.Faults.{Fault, short_fault, length_fault, type_fault, string_fault, boolean_fault, depth_fault, trailing_fault}
use Rattle.bson_values.specs.declared.fault.BsonFault.{BsonFault}
use Rattle.bson_values.specs.declared.fault.BsonFault.TheVariants.{Short, BadLength, BadType, BadText, BadBool, Deep, Trailing, Memory}

infixl 10 ◌>>=◌
abbrev pub ◌>>=◌ : {A B : Type 0} → Result A BsonFault → (A → Result B BsonFault) → Result B BsonFault
(Ok x) >>= f = f x
(Err e) >>= f = Err e

-- Unless memory runs out, an error is this one.
abbrev pub Fails : {Y : Type 0} → BsonFault → Result Y BsonFault → Type 0
Fails Memory read = Unit {0}
Fails e read = read ≡ Err e

-- Unless memory runs out, the result of a function, seen by `view`, is this result of reading.
abbrev pub Gives : {X Y : Type 0} → (X → Y) → Result X BsonFault → Result Y BsonFault → Type 0
Gives view (Ok x) read = read ≡ Ok (view x)
Gives view (Err e) read = Fails e read

abbrev pub fault_offset : BsonFault → Option ℕ
fault_offset (Short offset) = Some offset
fault_offset (BadLength offset) = Some offset
fault_offset (BadType offset byte) = Some offset
fault_offset (BadText offset) = Some offset
fault_offset (BadBool offset) = Some offset
fault_offset (Deep offset) = Some offset
fault_offset (Trailing offset) = Some offset
fault_offset Memory = None

-- the program's error for a fault of the definitions
abbrev pub fault_from : Fault → ℕ → BsonFault
fault_from short_fault offset = Short offset
fault_from length_fault offset = BadLength offset
fault_from (type_fault byte) offset = BadType offset byte
fault_from string_fault offset = BadText offset
fault_from boolean_fault offset = BadBool offset
fault_from depth_fault offset = Deep offset
fault_from trailing_fault offset = Trailing offset
