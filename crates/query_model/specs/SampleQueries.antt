-- Filters and documents to try the definitions on.
use Rattle.std.specs.Prelude.{ℕ, zero, suc, pos, List, [], ◌∷◌, map, Bool, true, Option, Result, Ok, codes}
use Prim.Native.String.{String}
use Rattle.bson_model.specs.Tree.{Datum, document_value, array_value, string_value, boolean_value, null_value, int32_value, Items, no_items, item, Fields, no_fields, field}
use Rattle.value_model.specs.Keys.{Span, key_bound, range_span}
use Rattle.query_model.specs.Queries.{QueryFault}
use Rattle.query_model.specs.Reading.{read_query, ◌>>=◌}
use Rattle.query_model.specs.Holds.{holds}
use Rattle.query_model.specs.KeySpans.{key_asked, key_equal, span_of}

abbrev pub number : ℕ → Datum
number n = int32_value (pos n)

abbrev pub items : List Datum → Items
items [] = no_items
items (d ∷ ds) = item d (items ds)

abbrev pub array : List Datum → Datum
array ds = array_value (items ds)

-- {name: d}
abbrev pub one : String → Datum → Fields
one name d = field (codes name) d no_fields

-- {name: d, and: e}
abbrev pub two : String → Datum → String → Datum → Fields
two name d other e = field (codes name) d (one other e)

-- the value {name: d}
abbrev pub inner : String → Datum → Datum
inner name d = document_value (one name d)

-- whether a filter holds of documents
abbrev pub answers : Fields → List Fields → Result (List Bool) QueryFault
answers filter documents = read_query filter >>= λ asked. Ok (map (holds asked) documents)

-- whether it holds of one
abbrev pub answer : Fields → Fields → Result Bool QueryFault
answer filter document = read_query filter >>= λ asked. Ok (holds asked document)

-- {a: 5}, {a: [5, 7]}, {a: [[5, 7]]}, {a: []}, {a: "5"}, {a: null}, {}
abbrev pub documents_with_a : List Fields
documents_with_a =
    one "a" (number 5)
    ∷ one "a" (array (number 5 ∷ number 7 ∷ []))
    ∷ one "a" (array (array (number 5 ∷ number 7 ∷ []) ∷ []))
    ∷ one "a" (array [])
    ∷ one "a" (string_value (codes "5"))
    ∷ one "a" null_value
    ∷ no_fields
    ∷ []

-- of which of them {a: {name: operand}} holds
abbrev pub answers_at_a : String → Datum → Result (List Bool) QueryFault
answers_at_a name operand = answers (one "a" (inner name operand)) documents_with_a

-- {a: [{b: 5}, {c: 1}]}, {a: [{b: 7}, 5, [{b: 5}]]}, {a: [1]}, {a: 5}, {a: {b: [5, 7]}}, {a: [{b: [5]}, {b: [7]}]}
abbrev pub documents_with_b : List Fields
documents_with_b =
    one "a" (array (inner "b" (number 5) ∷ inner "c" (number 1) ∷ []))
    ∷ one "a" (array (inner "b" (number 7) ∷ number 5 ∷ array (inner "b" (number 5) ∷ []) ∷ []))
    ∷ one "a" (array (number 1 ∷ []))
    ∷ one "a" (number 5)
    ∷ one "a" (inner "b" (array (number 5 ∷ number 7 ∷ [])))
    ∷ one "a" (array (inner "b" (array (number 5 ∷ [])) ∷ inner "b" (array (number 7 ∷ [])) ∷ []))
    ∷ []

-- of which of them {a.b: {name: operand}} holds
abbrev pub answers_at_b : String → Datum → Result (List Bool) QueryFault
answers_at_b name operand = answers (one "a.b" (inner name operand)) documents_with_b

-- the first equality on _id, the key that it targets, and the span
abbrev pub asked_of : Fields → Result (Option Datum) QueryFault
asked_of filter = read_query filter >>= λ asked. Ok (key_asked asked)

abbrev pub equal_of : Fields → Result (Option Datum) QueryFault
equal_of filter = read_query filter >>= λ asked. Ok (key_equal asked)

abbrev pub span_of_filter : Fields → Result (List Span) QueryFault
span_of_filter filter = read_query filter >>= λ asked. Ok (span_of asked)

-- the range from one key to another
abbrev pub between : Datum → Datum → Span
between least greatest = range_span (record { min = key_bound least; max = key_bound greatest })

-- a path of one part and so many others
abbrev pub dotted : ℕ → List ℕ
dotted zero = codes "a"
dotted (suc n) = 0x61 ∷ 0x2E ∷ dotted n

-- a query within so many $and
abbrev pub within_and : ℕ → Fields → Fields
within_and zero document = document
within_and (suc n) document = one "$and" (array (document_value (within_and n document) ∷ []))

-- an operator document within so many $not
abbrev pub within_not : ℕ → Fields → Fields
within_not zero document = document
within_not (suc n) document = one "$not" (document_value (within_not n document))

-- {name: true}
abbrev pub flag : String → Fields
flag name = one name (boolean_value true)
