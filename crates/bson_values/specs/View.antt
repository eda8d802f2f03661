-- A value of the program as plain data. A nested document or array is already seen as data.
use Rattle.std.specs.Prelude.{List, [], ◌∷◌}
use Rattle.bson_values.specs.declared.value.Value.{Value}
use Rattle.bson_values.specs.declared.value.Value.TheVariants.{Text, Doc, Array, Binary, ObjectId, Bool, Date, Null, Int32, Timestamp, Int64, MinKey, MaxKey}
use Rattle.bson_values.specs.declared.value.Field.{Field}
use Rattle.bson_model.specs.Tree.{Datum, string_value, document_value, array_value, binary_value, object_id_value, boolean_value, date_value, null_value, int32_value, timestamp_value, int64_value, min_key_value, max_key_value, Items, no_items, item, Fields, no_fields, field}

abbrev pub datum_of : Value → Datum
datum_of (Text s) = string_value s
datum_of (Doc ms) = document_value ms
datum_of (Array ds) = array_value ds
datum_of (Binary bytes subtype) = binary_value subtype bytes
datum_of (ObjectId id) = object_id_value id.content
datum_of (Bool b) = boolean_value b.content
datum_of (Date z) = date_value z
datum_of Null = null_value
datum_of (Int32 z) = int32_value z.content
datum_of (Timestamp n) = timestamp_value n
datum_of (Int64 z) = int64_value z
datum_of MinKey = min_key_value
datum_of MaxKey = max_key_value

abbrev pub fields_of : List Field → Fields
fields_of [] = no_fields
fields_of (m ∷ ms) = field m.name (datum_of m.value) (fields_of ms)

abbrev pub items_of : List Value → Items
items_of [] = no_items
items_of (v ∷ vs) = item (datum_of v) (items_of vs)
