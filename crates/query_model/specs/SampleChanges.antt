-- Changes and writes to try the definitions on.
use Rattle.std.specs.Prelude.{◌≡◌, ℕ, zero, suc, pos, negsuc, List, [], ◌∷◌, Bool, true, false, Option, Some, None, Result, Ok, Err, codes}
use Prim.Native.String.{String}
use Rattle.bson_model.specs.Tree.{Datum, document_value, string_value, int32_value, int64_value, Fields, no_fields, field}
use Rattle.query_model.specs.Queries.{QueryFault}
use Rattle.query_model.specs.Reading.{◌>>=◌}
use Rattle.query_model.specs.Changes.{read_change}
use Rattle.query_model.specs.Edits.{WriteFault, changed}
use Rattle.query_model.specs.Writes.{Write, read_update, read_delete}
use Rattle.query_model.specs.Effects.{Effect, effect_of}
use Rattle.query_model.specs.SampleQueries.{number, one, two, inner}

abbrev pub long : ℕ → Datum
long n = int64_value (pos n)

abbrev pub text : String → Datum
text s = string_value (codes s)

-- the greatest int32 and the greatest int64
abbrev pub greatest_int32 : Datum
greatest_int32 = number 2147483647

abbrev pub greatest_int64 : Datum
greatest_int64 = long 9223372036854775807

-- {_id: 1, name: d}
abbrev pub kept : String → Datum → Fields
kept name d = two "_id" (number 1) name d

-- {$set: {name: d}}, and the same of another operator
abbrev pub setting : String → Datum → Fields
setting name d = one "$set" (inner name d)

abbrev pub by : String → String → Datum → Fields
by operator name d = one operator (inner name d)

-- the change that words are, made of a document
abbrev pub change_by : Fields → Fields → Result (Result Fields WriteFault) QueryFault
change_by words before = read_change words >>= λ change. Ok (changed change before)

abbrev pub Becomes : Fields → Fields → Fields → Type 0
Becomes words before after = change_by words before ≡ Ok (Ok after)

abbrev pub FailsWith : Fields → Fields → WriteFault → Type 0
FailsWith words before fault = change_by words before ≡ Ok (Err fault)

-- what an update, an upsert and a delete make of the document under their key
abbrev pub update_of : Fields → Fields → Option Fields → Result (Result Effect WriteFault) QueryFault
update_of filter words before = read_update filter words false >>= λ write. Ok (effect_of write before)

abbrev pub upsert_of : Fields → Fields → Option Fields → Result (Result Effect WriteFault) QueryFault
upsert_of filter words before = read_update filter words true >>= λ write. Ok (effect_of write before)

abbrev pub delete_of : Fields → Option Fields → Result (Result Effect WriteFault) QueryFault
delete_of filter before = read_delete filter >>= λ write. Ok (effect_of write before)
