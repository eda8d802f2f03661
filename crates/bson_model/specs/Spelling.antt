-- The one encoding of a document (BSON 1.1, `document`, `e_list`, `element`, `string`, `binary`; little-endian
-- numbers). In an array the names are the decimal indices.
use Rattle.std.specs.Prelude.{ℕ, ◌+◌, List, [], ◌∷◌, ◌++◌, length, Bool, true, false}
use Rattle.std.specs.Int.{w32, w64, to_le_bytes, cast_unsigned}
use Rattle.std.specs.Fmt.{decimal}
use Rattle.bson_model.specs.Tree.{Datum, string_value, document_value, array_value, binary_value, object_id_value, boolean_value, date_value, null_value, int32_value, timestamp_value, int64_value, min_key_value, max_key_value, Items, no_items, item, Fields, no_fields, field}

-- the byte that encodes a value's type
abbrev pub type_byte_of : Datum → ℕ
type_byte_of (string_value s) = 0x02
type_byte_of (document_value ms) = 0x03
type_byte_of (array_value ds) = 0x04
type_byte_of (binary_value subtype bytes) = 0x05
type_byte_of (object_id_value bytes) = 0x07
type_byte_of (boolean_value b) = 0x08
type_byte_of (date_value z) = 0x09
type_byte_of null_value = 0x0A
type_byte_of (int32_value z) = 0x10
type_byte_of (timestamp_value n) = 0x11
type_byte_of (int64_value z) = 0x12
type_byte_of min_key_value = 0xFF
type_byte_of max_key_value = 0x7F

-- the length with its final 00, the text, and 00
abbrev pub string : List ℕ → List ℕ
string s = to_le_bytes w32 (length s + 1) ++ (s ++ 0 ∷ [])

-- the length of the whole, its content, and 00
abbrev pub framed : List ℕ → List ℕ
framed body = to_le_bytes w32 (length body + 5) ++ (body ++ 0 ∷ [])

-- type, name, 00 and the value's bytes
abbrev pub element : ℕ → List ℕ → List ℕ → List ℕ
element type_byte name value = type_byte ∷ name ++ 0 ∷ value

abbrev pub boolean_byte : Bool → ℕ
boolean_byte false = 0
boolean_byte true = 1

abbrev mutual
  pub written_value : Datum → List ℕ
  written_value (string_value s) = string s
  written_value (document_value ms) = framed (written_fields ms)
  written_value (array_value ds) = framed (written_items 0 ds)
  written_value (binary_value subtype bytes) = to_le_bytes w32 (length bytes) ++ (subtype ∷ bytes)
  written_value (object_id_value bytes) = bytes
  written_value (boolean_value b) = boolean_byte b ∷ []
  written_value (date_value z) = to_le_bytes w64 (cast_unsigned w64 z)
  written_value null_value = []
  written_value (int32_value z) = to_le_bytes w32 (cast_unsigned w32 z)
  written_value (timestamp_value n) = to_le_bytes w64 n
  written_value (int64_value z) = to_le_bytes w64 (cast_unsigned w64 z)
  written_value min_key_value = []
  written_value max_key_value = []

  -- the values of an array from this index on
  pub written_items : ℕ → Items → List ℕ
  written_items i no_items = []
  written_items i (item d ds) = element (type_byte_of d) (decimal i) (written_value d) ++ written_items (i + 1) ds

  pub written_fields : Fields → List ℕ
  written_fields no_fields = []
  written_fields (field name d ms) = element (type_byte_of d) name (written_value d) ++ written_fields ms

-- the one encoding of a document
abbrev pub written : Fields → List ℕ
written ms = framed (written_fields ms)
