-- The types of elements and their bytes (BSON 1.1, `element`).
use Rattle.std.specs.Prelude.{ℕ, Option, Some, None, ◌==◌, if◌then◌else◌}
use Rattle.bson_values.specs.declared.element_type.ElementType.{ElementType}
use Rattle.bson_values.specs.declared.element_type.ElementType.TheVariants.{Text, Doc, Array, Binary, ObjectId, Bool as Boolean, Date, Null, Int32, Timestamp, Int64, MinKey, MaxKey}
use Rattle.bson_model.specs.Tree.{Datum, string_value, document_value, array_value, binary_value, object_id_value, boolean_value, date_value, null_value, int32_value, timestamp_value, int64_value, min_key_value, max_key_value}

abbrev pub type_from : ℕ → Option ElementType
type_from b =
    if b == 0x02 then Some Text
    else if b == 0x03 then Some Doc
    else if b == 0x04 then Some Array
    else if b == 0x05 then Some Binary
    else if b == 0x07 then Some ObjectId
    else if b == 0x08 then Some Boolean
    else if b == 0x09 then Some Date
    else if b == 0x0A then Some Null
    else if b == 0x10 then Some Int32
    else if b == 0x11 then Some Timestamp
    else if b == 0x12 then Some Int64
    else if b == 0xFF then Some MinKey
    else if b == 0x7F then Some MaxKey
    else None

abbrev pub type_of : Datum → ElementType
type_of (string_value s) = Text
type_of (document_value ms) = Doc
type_of (array_value ds) = Array
type_of (binary_value subtype content) = Binary
type_of (object_id_value content) = ObjectId
type_of (boolean_value b) = Boolean
type_of (date_value z) = Date
type_of null_value = Null
type_of (int32_value z) = Int32
type_of (timestamp_value n) = Timestamp
type_of (int64_value z) = Int64
type_of min_key_value = MinKey
type_of max_key_value = MaxKey
