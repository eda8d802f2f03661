-- What bytes encode is what is read from them.
use Rattle.std.proofs.Common.{◌≡◌, ℕ, zero, suc, ◌+◌, ◌-◌, ◌<◌, ◌≤◌, Bool, true, false, ltb, eqb, List, [], ◌∷◌, ◌++◌, length, Option, Some, None, Result, Ok, refl, ap, subst, ◌∙◌, append_assoc, add-one, arith}
use Rattle.std.specs.Prelude.{ℤ, FitsSigned}
use Rattle.std.specs.Int.{w32, w64, from_le_bytes, to_le_bytes, cast_signed, cast_unsigned}
use Rattle.std.specs.Str.{IsUtf8}
use Rattle.std.proofs.lemmas.Bool.{le-ltb}
use Rattle.std.proofs.lemmas.Bool.Decides.{nat_tests}
use Rattle.std.proofs.lemmas.List.{take_at, drop_at, length-append}
use Rattle.std.proofs.lemmas.Nat.{from_le_bytes-to_le_bytes_4, from_le_bytes-to_le_bytes_8}
use Rattle.std.proofs.lemmas.Int.{to_z-of_z}
use Rattle.std.proofs.Math.Facts.{Fits-of_z}
use Rattle.bson_model.specs.Tree.{Datum, string_value, document_value, array_value, binary_value, object_id_value, boolean_value, date_value, null_value, int32_value, timestamp_value, int64_value, min_key_value, max_key_value, Items, no_items, item, Fields, no_fields, field, value_depth, array_depth, document_depth}
use Rattle.bson_model.specs.Spelling.{type_byte_of, string, framed, element, boolean_byte}
use Rattle.bson_model.specs.Grammar.{HasNoZero, ReadsValue, ReadsItems, ReadsFields}
use Rattle.bson_model.specs.Limits.{length_limit}
use Rattle.bson_model.proofs.Lengths.{length-element, element-append, length-framed, framed-append}
use Rattle.bson_values.specs.declared.fault.BsonFault.{BsonFault}
use Rattle.bson_values.specs.declared.element_type.ElementType.{ElementType}
use Rattle.bson_values.specs.declared.element_type.ElementType.TheVariants as types
use Rattle.bson_values.specs.ReadFaults.{◌>>=◌}
use Rattle.bson_values.specs.Types.{type_from, type_of}
use Rattle.bson_values.specs.Readers.{Reader, length_at, fixed_at, string_at, content_at, binary_at, boolean_at, scalar_at, checked_type, type_at, field_behind, field_at, item_behind, item_at, fields_behind, fields_with, items_behind, items_with, document_with, array_with, value_at}
use Rattle.bson_values.proofs.TypeTests.{byte_of, type_byte_of-type, type_from-byte}
use Rattle.bson_values.proofs.Leaves.{length_again, fixed_again, string_again, index_again, named_again}

-- values without nested values

abbrev IsFlat : ElementType → Type 0
IsFlat types.Doc = ⊥
IsFlat types.Array = ⊥
IsFlat type_byte = Unit {0}

at_scalar : (total : ℕ) (n : ℕ) (type_byte : ElementType) (room : ℕ) (bytes : List ℕ) → IsFlat type_byte → value_at total n type_byte room bytes ≡ scalar_at total type_byte room bytes
unfolding value_at
at_scalar total zero type_byte room bytes flat = refl
at_scalar total (suc n) types.Doc room bytes flat = absurd flat
at_scalar total (suc n) types.Array room bytes flat = absurd flat
at_scalar total (suc n) type_byte room bytes flat = refl

number_32 : (v : List ℕ) (z : ℤ) → v ≡ to_le_bytes w32 (cast_unsigned w32 z) → FitsSigned w32 z → cast_signed w32 (from_le_bytes w32 v) ≡ z
number_32 v z e f =
    ap (λ (s : List ℕ). cast_signed w32 (from_le_bytes w32 s)) e ∙ ap (λ (n : ℕ). cast_signed w32 n) (from_le_bytes-to_le_bytes_4 (cast_unsigned w32 z) (Fits-of_z f).fits) ∙ to_z-of_z w32 z f

number_64 : (v : List ℕ) (z : ℤ) → v ≡ to_le_bytes w64 (cast_unsigned w64 z) → FitsSigned w64 z → cast_signed w64 (from_le_bytes w64 v) ≡ z
number_64 v z e f =
    ap (λ (s : List ℕ). cast_signed w64 (from_le_bytes w64 s)) e ∙ ap (λ (n : ℕ). cast_signed w64 n) (from_le_bytes-to_le_bytes_8 (cast_unsigned w64 z) (Fits-of_z f).fits) ∙ to_z-of_z w64 z f

-- a value made from its bytes
abbrev as_value : (List ℕ → Datum) → List ℕ × List ℕ → Result (Datum × List ℕ) BsonFault
as_value made x = Ok (made x.0, x.1)

-- a value of a fixed number of bytes
fixed : (total count room : ℕ) (v rest : List ℕ) (made : List ℕ → Datum) (d : Datum) → length v ≡ count → length v ≤ room → made v ≡ d → (fixed_at total count room (v ++ rest) >>= as_value made) ≡ Ok (d, rest)
fixed total count room v rest made d len fits e =
    ap (λ (r : Result (List ℕ × List ℕ) BsonFault). r >>= as_value made) (fixed_again total count room v rest len (omega arith)) ∙ ap (λ (c : Datum). Ok (c, rest)) e

content_again : (total subtype : ℕ) (content rest : List ℕ) → content_at total (length content) (subtype ∷ (content ++ rest)) ≡ Ok (binary_value subtype content, rest)
unfolding content_at
content_again total subtype content rest =
    let a : ltb (length (content ++ rest)) (length content) ≡ false = le-ltb _ _ (omega (arith, length-append content rest)) in
    rw (a, take_at content rest (length content) refl, drop_at content rest (length content) refl) refl

binary_again : (total room subtype : ℕ) (content v rest : List ℕ) → v ≡ to_le_bytes w32 (length content) ++ (subtype ∷ content) → length content < length_limit → length v ≤ room → binary_at total room (v ++ rest) ≡ Ok (binary_value subtype content, rest)
unfolding binary_at
binary_again total room subtype content v rest e high fits =
    let size : length v ≡ length content + 5 = ap (λ (s : List ℕ). length s) e ∙ length-append (to_le_bytes w32 (length content)) (subtype ∷ content) ∙ omega arith in
    let regrouped : v ++ rest ≡ to_le_bytes w32 (length content) ++ (subtype ∷ (content ++ rest)) = ap (λ (s : List ℕ). s ++ rest) e ∙ append_assoc (to_le_bytes w32 (length content)) (subtype ∷ content) rest in
    ap (λ (s : List ℕ). length_at total 0 5 room s >>= λ x. content_at total x.0 x.1) regrouped
    ∙ ap (λ (r : Result (ℕ × List ℕ) BsonFault). r >>= λ x. content_at total x.0 x.1) (length_again total 0 5 room (length content) (subtype ∷ (content ++ rest)) (omega arith) high (omega arith) (omega arith))
    ∙ content_again total subtype content rest

boolean_again : (total : ℕ) (b : Bool) (v rest : List ℕ) → v ≡ boolean_byte b ∷ [] → boolean_at total (v ++ rest) ≡ Ok (boolean_value b, rest)
unfolding boolean_at
boolean_again total false v rest e = ap (λ (s : List ℕ). boolean_at total (s ++ rest)) e
boolean_again total true v rest e = ap (λ (s : List ℕ). boolean_at total (s ++ rest)) e

abbrev given : Datum → List ℕ → Result (Datum × List ℕ) BsonFault
given d rest = Ok (d, rest)

empty : (d : Datum) (v rest : List ℕ) → v ≡ [] → given d (v ++ rest) ≡ given d rest
empty d v rest e = ap (λ (s : List ℕ). given d (s ++ rest)) e

length_of : (v w : List ℕ) (n : ℕ) → v ≡ w → length w ≡ n → length v ≡ n
length_of v w n e len = ap (λ (s : List ℕ). length s) e ∙ len

scalar_again : (total : ℕ) (d : Datum) (room : ℕ) (v rest : List ℕ) → IsFlat (type_of d) → ReadsValue v d → length v ≤ room → scalar_at total (type_of d) room (v ++ rest) ≡ Ok (d, rest)
unfolding scalar_at
scalar_again total (string_value s) room v rest flat h fits =
    let size : length (string s) ≤ room = subst (λ (w : List ℕ). length w ≤ room) h.0 fits in
    ap (λ (w : List ℕ). string_at total room (w ++ rest) >>= λ x. Ok (string_value x.0, x.1)) h.0
    ∙ ap (λ (r : Result (List ℕ × List ℕ) BsonFault). r >>= λ x. Ok (string_value x.0, x.1)) (string_again total room s rest h.1 h.2 size)
scalar_again total (document_value ms) room v rest flat h fits = absurd flat
scalar_again total (array_value ds) room v rest flat h fits = absurd flat
scalar_again total (binary_value subtype content) room v rest flat h fits = binary_again total room subtype content v rest h.0 h.1 fits
scalar_again total (object_id_value content) room v rest flat h fits =
    fixed total 12 room v rest (λ prefix. object_id_value prefix) (object_id_value content) (length_of v content 12 h.0 h.1) fits (ap (λ (s : List ℕ). object_id_value s) h.0)
scalar_again total (boolean_value b) room v rest flat h fits = boolean_again total b v rest h
scalar_again total (date_value z) room v rest flat h fits =
    fixed total 8 room v rest (λ prefix. date_value (cast_signed w64 (from_le_bytes w64 prefix))) (date_value z) (length_of v _ 8 h.0 refl) fits (ap (λ (y : ℤ). date_value y) (number_64 v z h.0 h.1))
scalar_again total null_value room v rest flat h fits = empty null_value v rest h
scalar_again total (int32_value z) room v rest flat h fits =
    fixed total 4 room v rest (λ prefix. int32_value (cast_signed w32 (from_le_bytes w32 prefix))) (int32_value z) (length_of v _ 4 h.0 refl) fits (ap (λ (y : ℤ). int32_value y) (number_32 v z h.0 h.1))
scalar_again total (timestamp_value n) room v rest flat h fits =
    fixed total 8 room v rest (λ prefix. timestamp_value (from_le_bytes w64 prefix)) (timestamp_value n) (length_of v _ 8 h.0 refl) fits
    (ap (λ (s : List ℕ). timestamp_value (from_le_bytes w64 s)) h.0 ∙ ap (λ (m : ℕ). timestamp_value m) (from_le_bytes-to_le_bytes_8 n h.1))
scalar_again total (int64_value z) room v rest flat h fits =
    fixed total 8 room v rest (λ prefix. int64_value (cast_signed w64 (from_le_bytes w64 prefix))) (int64_value z) (length_of v _ 8 h.0 refl) fits (ap (λ (y : ℤ). int64_value y) (number_64 v z h.0 h.1))
scalar_again total min_key_value room v rest flat h fits = empty min_key_value v rest h
scalar_again total max_key_value room v rest flat h fits = empty max_key_value v rest h

flat_again : (total : ℕ) (d : Datum) (n room : ℕ) (v rest : List ℕ) → IsFlat (type_of d) → ReadsValue v d → length v ≤ room → value_at total n (type_of d) room (v ++ rest) ≡ Ok (d, rest)
flat_again total d n room v rest flat h fits = at_scalar total n (type_of d) room (v ++ rest) flat ∙ scalar_again total d room v rest flat h fits

-- ---- types

byte-zero : (type_byte : ElementType) → eqb (byte_of type_byte) 0 ≡ false
byte-zero types.Text = refl
byte-zero types.Doc = refl
byte-zero types.Array = refl
byte-zero types.Binary = refl
byte-zero types.ObjectId = refl
byte-zero types.Bool = refl
byte-zero types.Date = refl
byte-zero types.Null = refl
byte-zero types.Int32 = refl
byte-zero types.Timestamp = refl
byte-zero types.Int64 = refl
byte-zero types.MinKey = refl
byte-zero types.MaxKey = refl

type_by : (total : ℕ) (room b : ℕ) (type_byte : ElementType) (rest : List ℕ) → eqb b 0 ≡ false → type_from b ≡ Some type_byte → 0 < room → type_at total (suc room) (b ∷ rest) ≡ Ok (Some type_byte, rest)
unfolding type_at checked_type
type_by total room b type_byte rest z k some =
    let more : eqb room 0 ≡ false = grind (arith, nat_tests) in
    rw (z, k, more) refl

type_again : (total : ℕ) (room : ℕ) (d : Datum) (rest : List ℕ) → 1 < room → type_at total room (type_byte_of d ∷ rest) ≡ Ok (Some (type_of d), rest)
type_again total zero d rest some = absurd (omega arith)
type_again total (suc room) d rest some =
    ap (λ (b : ℕ). type_at total (suc room) (b ∷ rest)) (type_byte_of-type d) ∙ type_by total room (byte_of (type_of d)) (type_of d) rest (byte-zero (type_of d)) (type_from-byte (type_of d)) (omega arith)

end_again : (total : ℕ) (rest : List ℕ) → type_at total 1 (0 ∷ rest) ≡ Ok (None, rest)
unfolding type_at
end_again total rest = refl

-- ---- one field, one value of an array

field_again : (total : ℕ) (value_at : Reader) (room : ℕ) (name : List ℕ) (d : Datum) (v rest : List ℕ) → HasNoZero name → IsUtf8 name → length (element (type_byte_of d) name v) < room
    → value_at (type_of d) (room - 1 - (length name + 1)) (v ++ rest) ≡ Ok (d, rest) → field_at total value_at room (element (type_byte_of d) name v ++ rest) ≡ Ok (Some (name, d), rest)
unfolding field_at field_behind
field_again total value_at room name d v rest no_zero utf8 fits e =
    let len = length-element (type_byte_of d) name v in
    ap (λ (s : List ℕ). type_at total room s >>= λ type_byte. field_behind total value_at room type_byte.0 type_byte.1) (element-append (type_byte_of d) name v rest)
    ∙ ap (λ (r : Result (Option ElementType × List ℕ) BsonFault). r >>= λ type_byte. field_behind total value_at room type_byte.0 type_byte.1) (type_again total room d (name ++ 0 ∷ (v ++ rest)) (omega arith))
    ∙ ap (λ (r : Result (List ℕ × ℕ × List ℕ) BsonFault). r >>= λ name. value_at (type_of d) name.1 name.2 >>= λ value. Ok (Some (name.0, value.0), value.1)) (named_again total (room - 1) name (v ++ rest) no_zero utf8 (omega arith))
    ∙ ap (λ (r : Result (Datum × List ℕ) BsonFault). r >>= λ value. Ok (Some (name, value.0), value.1)) e

item_again : (total : ℕ) (value_at : Reader) (room : ℕ) (name : List ℕ) (d : Datum) (v rest : List ℕ) → HasNoZero name → length (element (type_byte_of d) name v) < room
    → value_at (type_of d) (room - 1 - (length name + 1)) (v ++ rest) ≡ Ok (d, rest) → item_at total value_at room (element (type_byte_of d) name v ++ rest) ≡ Ok (Some d, rest)
unfolding item_at item_behind
item_again total value_at room name d v rest no_zero fits e =
    let len = length-element (type_byte_of d) name v in
    ap (λ (s : List ℕ). type_at total room s >>= λ type_byte. item_behind total value_at room type_byte.0 type_byte.1) (element-append (type_byte_of d) name v rest)
    ∙ ap (λ (r : Result (Option ElementType × List ℕ) BsonFault). r >>= λ type_byte. item_behind total value_at room type_byte.0 type_byte.1) (type_again total room d (name ++ 0 ∷ (v ++ rest)) (omega arith))
    ∙ ap (λ (r : Result (ℕ × List ℕ) BsonFault). r >>= λ left. value_at (type_of d) left.0 left.1 >>= λ value. Ok (Some value.0, value.1)) (index_again total (room - 1) name (v ++ rest) no_zero (omega arith))
    ∙ ap (λ (r : Result (Datum × List ℕ) BsonFault). r >>= λ value. Ok (Some value.0, value.1)) e

-- ---- fields, and the values of an array

fields_step : (total : ℕ) (value_at : Reader) (f room left : ℕ) (bytes rest behind : List ℕ) (m : List ℕ × Datum) (ms : Fields) → field_at total value_at room bytes ≡ Ok (Some m, rest)
    → room - (length bytes - length rest) ≡ left → fields_with total value_at f left rest ≡ Ok (ms, behind) → fields_with total value_at (suc f) room bytes ≡ Ok (field m.0 m.1 ms, behind)
unfolding fields_with fields_behind
fields_step total value_at f room left bytes rest behind m ms first l others = rw (first, l, others) refl

fields_end : (total : ℕ) (value_at : Reader) (f : ℕ) (rest : List ℕ) → fields_with total value_at (suc f) 1 (0 ∷ rest) ≡ Ok (no_fields, rest)
unfolding fields_with fields_behind field_at field_behind
fields_end total value_at f rest = rw (end_again total rest) refl

items_step : (total : ℕ) (value_at : Reader) (f room left : ℕ) (bytes rest behind : List ℕ) (d : Datum) (ds : Items) → item_at total value_at room bytes ≡ Ok (Some d, rest)
    → room - (length bytes - length rest) ≡ left → items_with total value_at f left rest ≡ Ok (ds, behind) → items_with total value_at (suc f) room bytes ≡ Ok (item d ds, behind)
unfolding items_with items_behind
items_step total value_at f room left bytes rest behind d ds first l others = rw (first, l, others) refl

items_end : (total : ℕ) (value_at : Reader) (f : ℕ) (rest : List ℕ) → items_with total value_at (suc f) 1 (0 ∷ rest) ≡ Ok (no_items, rest)
unfolding items_with items_behind item_at item_behind
items_end total value_at f rest = rw (end_again total rest) refl

document_from : (total : ℕ) (value_at : Reader) (room : ℕ) (body rest : List ℕ) (ms : Fields) → length body + 5 < length_limit → length (framed body) ≤ room
    → fields_with total value_at (suc (length (body ++ 0 ∷ rest))) (length body + 1) (body ++ 0 ∷ rest) ≡ Ok (ms, rest) → document_with total value_at room (framed body ++ rest) ≡ Ok (ms, rest)
unfolding document_with
document_from total value_at room body rest ms high fits e =
    let len = length-framed body in
    let k : length body + 5 - 4 ≡ length body + 1 = omega arith in
    ap (λ (s : List ℕ). length_at total 5 0 room s >>= λ x. fields_with total value_at (length x.1 + 1) (x.0 - 4) x.1) (framed-append body rest)
    ∙ ap (λ (r : Result (ℕ × List ℕ) BsonFault). r >>= λ x. fields_with total value_at (length x.1 + 1) (x.0 - 4) x.1) (length_again total 5 0 room (length body + 5) (body ++ 0 ∷ rest) (omega arith) high (omega arith) (omega arith))
    ∙ rw (k, add-one) e

array_from : (total : ℕ) (value_at : Reader) (room : ℕ) (body rest : List ℕ) (ds : Items) → length body + 5 < length_limit → length (framed body) ≤ room
    → items_with total value_at (suc (length (body ++ 0 ∷ rest))) (length body + 1) (body ++ 0 ∷ rest) ≡ Ok (ds, rest) → array_with total value_at room (framed body ++ rest) ≡ Ok (ds, rest)
unfolding array_with
array_from total value_at room body rest ds high fits e =
    let len = length-framed body in
    let k : length body + 5 - 4 ≡ length body + 1 = omega arith in
    ap (λ (s : List ℕ). length_at total 5 0 room s >>= λ x. items_with total value_at (length x.1 + 1) (x.0 - 4) x.1) (framed-append body rest)
    ∙ ap (λ (r : Result (ℕ × List ℕ) BsonFault). r >>= λ x. items_with total value_at (length x.1 + 1) (x.0 - 4) x.1) (length_again total 5 0 room (length body + 5) (body ++ 0 ∷ rest) (omega arith) high (omega arith) (omega arith))
    ∙ rw (k, add-one) e

value_of_document : (total : ℕ) (n room : ℕ) (v rest : List ℕ) (ms : Fields) → document_with total (value_at total n) room (v ++ rest) ≡ Ok (ms, rest) → value_at total (suc n) types.Doc room (v ++ rest) ≡ Ok (document_value ms, rest)
unfolding value_at
value_of_document total n room v rest ms e = ap (λ (r : Result (Fields × List ℕ) BsonFault). r >>= λ x. Ok (document_value x.0, x.1)) e

value_of_array : (total : ℕ) (n room : ℕ) (v rest : List ℕ) (ds : Items) → array_with total (value_at total n) room (v ++ rest) ≡ Ok (ds, rest) → value_at total (suc n) types.Array room (v ++ rest) ≡ Ok (array_value ds, rest)
unfolding value_at
value_of_array total n room v rest ds e = ap (λ (r : Result (Items × List ℕ) BsonFault). r >>= λ x. Ok (array_value x.0, x.1)) e

document_depth-some : (ms : Fields) → 0 < document_depth ms
document_depth-some no_fields = omega arith
document_depth-some (field name d ms) = omega arith

array_depth-some : (ds : Items) → 0 < array_depth ds
array_depth-some no_items = omega arith
array_depth-some (item d ds) = omega arith

module _ (total : ℕ) where
  mutual
    value_again : (d : Datum) (n room : ℕ) (v rest : List ℕ) → ReadsValue v d → value_depth d ≤ n → length v ≤ room → value_at total n (type_of d) room (v ++ rest) ≡ Ok (d, rest)
    value_again (document_value ms) zero room v rest h low fits = absurd (omega (arith, document_depth-some ms))
    value_again (document_value ms) (suc n) room v rest h low fits =
        let size : length (framed h.0) ≤ room = subst (λ (w : List ℕ). length w ≤ room) h.1 fits in
        value_of_document total n room v rest ms
        (ap (λ (w : List ℕ). document_with total (value_at total n) room (w ++ rest)) h.1
        ∙ document_from total (value_at total n) room h.0 rest ms h.2 size
        (fields_again ms n (length (h.0 ++ 0 ∷ rest)) (length h.0 + 1) h.0 rest h.3 low (omega (arith, length-append h.0 (0 ∷ rest))) refl))
    value_again (array_value ds) zero room v rest h low fits = absurd (omega (arith, array_depth-some ds))
    value_again (array_value ds) (suc n) room v rest h low fits =
        let size : length (framed h.0) ≤ room = subst (λ (w : List ℕ). length w ≤ room) h.1 fits in
        value_of_array total n room v rest ds
        (ap (λ (w : List ℕ). array_with total (value_at total n) room (w ++ rest)) h.1
        ∙ array_from total (value_at total n) room h.0 rest ds h.2 size
        (items_again ds n (length (h.0 ++ 0 ∷ rest)) (length h.0 + 1) h.0 rest h.3 low (omega (arith, length-append h.0 (0 ∷ rest))) refl))
    value_again (string_value s) n room v rest h low fits = flat_again total (string_value s) n room v rest tt h fits
    value_again (binary_value subtype content) n room v rest h low fits = flat_again total (binary_value subtype content) n room v rest tt h fits
    value_again (object_id_value content) n room v rest h low fits = flat_again total (object_id_value content) n room v rest tt h fits
    value_again (boolean_value b) n room v rest h low fits = flat_again total (boolean_value b) n room v rest tt h fits
    value_again (date_value z) n room v rest h low fits = flat_again total (date_value z) n room v rest tt h fits
    value_again null_value n room v rest h low fits = flat_again total null_value n room v rest tt h fits
    value_again (int32_value z) n room v rest h low fits = flat_again total (int32_value z) n room v rest tt h fits
    value_again (timestamp_value m) n room v rest h low fits = flat_again total (timestamp_value m) n room v rest tt h fits
    value_again (int64_value z) n room v rest h low fits = flat_again total (int64_value z) n room v rest tt h fits
    value_again min_key_value n room v rest h low fits = flat_again total min_key_value n room v rest tt h fits
    value_again max_key_value n room v rest h low fits = flat_again total max_key_value n room v rest tt h fits

    items_again : (ds : Items) (n f room : ℕ) (body rest : List ℕ) → ReadsItems body ds → array_depth ds ≤ suc n → length body ≤ f → length body + 1 ≡ room
        → items_with total (value_at total n) (suc f) room (body ++ 0 ∷ rest) ≡ Ok (ds, rest)
    items_again no_items n f room body rest h low enough is =
        ap (λ (s : List ℕ). items_with total (value_at total n) (suc f) room (s ++ 0 ∷ rest)) h
        ∙ ap (λ (r : ℕ). items_with total (value_at total n) (suc f) r (0 ∷ rest)) (let len : length body ≡ 0 = ap (λ (s : List ℕ). length s) h in let one : room ≡ 1 = omega arith in one)
        ∙ items_end total (value_at total n) f rest
    items_again (item d ds) n f room body rest h low enough is =
        let prefix : List ℕ = element (type_byte_of d) h.0 h.1 in
        let len = length-element (type_byte_of d) h.0 h.1 in
        let size : length body ≡ length prefix + length h.2 = ap (λ (s : List ℕ). length s) h.3 ∙ length-append prefix h.2 in
        let regrouped : body ++ 0 ∷ rest ≡ prefix ++ (h.2 ++ 0 ∷ rest) = ap (λ (s : List ℕ). s ++ 0 ∷ rest) h.3 ∙ append_assoc prefix h.2 (0 ∷ rest) in
        let value = value_again d n (room - 1 - (length h.0 + 1)) h.1 (h.2 ++ 0 ∷ rest) h.5 (omega arith) (omega arith) in
        let first = item_again total (value_at total n) room h.0 d h.1 (h.2 ++ 0 ∷ rest) h.4 (omega arith) value in
        let k : suc (f - 1) ≡ f = omega arith in
        let left : room - (length (prefix ++ (h.2 ++ 0 ∷ rest)) - length (h.2 ++ 0 ∷ rest)) ≡ length h.2 + 1 = omega (arith, length-append prefix (h.2 ++ 0 ∷ rest)) in
        let others = subst (λ (g : ℕ). items_with total (value_at total n) g (length h.2 + 1) (h.2 ++ 0 ∷ rest) ≡ Ok (ds, rest)) k
        (items_again ds n (f - 1) (length h.2 + 1) h.2 rest h.6 (omega arith) (omega arith) refl) in
        ap (λ (s : List ℕ). items_with total (value_at total n) (suc f) room s) regrouped
        ∙ items_step total (value_at total n) f room (length h.2 + 1) (prefix ++ (h.2 ++ 0 ∷ rest)) (h.2 ++ 0 ∷ rest) rest d ds first left others

    pub fields_again : (ms : Fields) (n f room : ℕ) (body rest : List ℕ) → ReadsFields body ms → document_depth ms ≤ suc n → length body ≤ f → length body + 1 ≡ room
        → fields_with total (value_at total n) (suc f) room (body ++ 0 ∷ rest) ≡ Ok (ms, rest)
    fields_again no_fields n f room body rest h low enough is =
        ap (λ (s : List ℕ). fields_with total (value_at total n) (suc f) room (s ++ 0 ∷ rest)) h
        ∙ ap (λ (r : ℕ). fields_with total (value_at total n) (suc f) r (0 ∷ rest)) (let len : length body ≡ 0 = ap (λ (s : List ℕ). length s) h in let one : room ≡ 1 = omega arith in one)
        ∙ fields_end total (value_at total n) f rest
    fields_again (field name d ms) n f room body rest h low enough is =
        let prefix : List ℕ = element (type_byte_of d) name h.0 in
        let len = length-element (type_byte_of d) name h.0 in
        let size : length body ≡ length prefix + length h.1 = ap (λ (s : List ℕ). length s) h.2 ∙ length-append prefix h.1 in
        let regrouped : body ++ 0 ∷ rest ≡ prefix ++ (h.1 ++ 0 ∷ rest) = ap (λ (s : List ℕ). s ++ 0 ∷ rest) h.2 ∙ append_assoc prefix h.1 (0 ∷ rest) in
        let value = value_again d n (room - 1 - (length name + 1)) h.0 (h.1 ++ 0 ∷ rest) h.5 (omega arith) (omega arith) in
        let first = field_again total (value_at total n) room name d h.0 (h.1 ++ 0 ∷ rest) h.3 h.4 (omega arith) value in
        let k : suc (f - 1) ≡ f = omega arith in
        let left : room - (length (prefix ++ (h.1 ++ 0 ∷ rest)) - length (h.1 ++ 0 ∷ rest)) ≡ length h.1 + 1 = omega (arith, length-append prefix (h.1 ++ 0 ∷ rest)) in
        let others = subst (λ (g : ℕ). fields_with total (value_at total n) g (length h.1 + 1) (h.1 ++ 0 ∷ rest) ≡ Ok (ms, rest)) k
        (fields_again ms n (f - 1) (length h.1 + 1) h.1 rest h.6 (omega arith) (omega arith) refl) in
        ap (λ (s : List ℕ). fields_with total (value_at total n) (suc f) room s) regrouped
        ∙ fields_step total (value_at total n) f room (length h.1 + 1) (prefix ++ (h.1 ++ 0 ∷ rest)) (h.1 ++ 0 ∷ rest) rest (name, d) ms first left others

pub document_again : (total : ℕ) (n room : ℕ) (body rest : List ℕ) (ms : Fields) → length body + 5 < length_limit → length (framed body) ≤ room → ReadsFields body ms → document_depth ms ≤ suc n
    → document_with total (value_at total n) room (framed body ++ rest) ≡ Ok (ms, rest)
document_again total n room body rest ms high fits reads low =
    document_from total (value_at total n) room body rest ms high fits
    (fields_again total ms n (length (body ++ 0 ∷ rest)) (length body + 1) body rest reads low (omega (arith, length-append body (0 ∷ rest))) refl)
