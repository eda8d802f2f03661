-- What is nested in a document or an array is smaller.
use Rattle.std.specs.Prelude.{◌≤◌, max, List, [], ◌∷◌}
use Rattle.std.proofs.Common.{arith}
use denote.Param.Weighed.{most}
use Rattle.bson_values.specs.declared.value.Value.{Value}
use Rattle.bson_values.specs.declared.value.Value.TheVariants.{Text, Doc, Array, Binary, ObjectId, Bool, Date, Null, Int32, Timestamp, Int64, MinKey, MaxKey}
use Rattle.bson_values.specs.declared.value.Field.{Field}
use Rattle.bson_values.specs.declared.value.Array.TheDeep.{deep-Value, deep-Field}
use Rattle.bson_values.specs.Sizes.{datum_size, items_size, fields_size}
use Rattle.bson_values.specs.View.{datum_of, fields_of, items_of}

value_falls : (v : Value) → deep-Value v ≤ datum_size (datum_of v)
value_falls (Text s) = omega arith
value_falls (Doc ms) = omega arith
value_falls (Array ds) = omega arith
value_falls (Binary subtype bytes) = omega arith
value_falls (ObjectId bytes) = omega arith
value_falls (Bool b) = omega arith
value_falls (Date z) = omega arith
value_falls Null = omega arith
value_falls (Int32 z) = omega arith
value_falls (Timestamp n) = omega arith
value_falls (Int64 z) = omega arith
value_falls MinKey = omega arith
value_falls MaxKey = omega arith

pub fields_fall : (ms : List Field) → max (most (λ m. deep-Field m) ms) 0 ≤ fields_size (fields_of ms)
fields_fall [] = omega arith
fields_fall (m ∷ ms) = omega (arith, value_falls m.value, fields_fall ms)

pub items_fall : (vs : List Value) → max (most (λ v. deep-Value v) vs) 0 ≤ items_size (items_of vs)
items_fall [] = omega arith
items_fall (v ∷ vs) = omega (arith, value_falls v, items_fall vs)
