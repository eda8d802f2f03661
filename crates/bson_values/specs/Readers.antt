-- Reading from left to right up to the first fault. `total` is the number of all bytes: the offset of the first of some bytes is total less their number.
-- `room` is how many bytes the document still has by its length, including the last 00.
use Rattle.std.specs.Prelude.{ℕ, zero, suc, ◌+◌, ◌-◌, List, [], ◌∷◌, length, take, drop, slice_index, true, false, Option, Some, None, Result, Ok, Err, nat_lt, nat_le, ◌==◌, if◌then◌else◌}
use Rattle.std.specs.Int.{w32, w64, from_le_bytes, cast_signed}
use Rattle.std.specs.Str.{is_utf8}
use Rattle.bson_values.specs.declared.fault.BsonFault.{BsonFault}
use Rattle.bson_values.specs.declared.fault.BsonFault.TheVariants.{Short, BadLength, BadType, BadText, BadBool, Deep, Trailing}
use Rattle.bson_values.specs.declared.element_type.ElementType.{ElementType}
use Rattle.bson_values.specs.declared.element_type.ElementType.TheVariants as types
use Rattle.bson_values.specs.ReadFaults.{◌>>=◌}
use Rattle.bson_values.specs.Types.{type_from}
use Rattle.bson_model.specs.Limits.{length_limit, most_depth_kept}
use Rattle.bson_model.specs.Tree.{Datum, string_value, document_value, array_value, binary_value, object_id_value, boolean_value, date_value, null_value, int32_value, timestamp_value, int64_value, min_key_value, max_key_value, Items, no_items, item, Fields, no_fields, field}

-- a type, the room and the bytes: the value, and the bytes after it
abbrev pub Reader : Type 0
Reader = ElementType → ℕ → List ℕ → Result (Datum × List ℕ) BsonFault

-- A length that is at least `least`; the value has `beside` bytes more than its length counts.
unfoldable pub length_within : ℕ → ℕ → ℕ → ℕ → ℕ → List ℕ → Result (ℕ × List ℕ) BsonFault
length_within least beside room offset n rest =
    if nat_lt n least then Err (BadLength offset)
    else if nat_le length_limit n then Err (BadLength offset)
    else if nat_lt room (n + beside) then Err (BadLength offset)
    else Ok (n, rest)

-- a text at an offset
unfoldable pub utf8_at : ℕ → List ℕ → Result (List ℕ) BsonFault
utf8_at offset text = if is_utf8 text then Ok text else Err (BadText offset)

module _ (total : ℕ) where
  unfoldable pub length_at : ℕ → ℕ → ℕ → List ℕ → Result (ℕ × List ℕ) BsonFault
  length_at least beside room bytes =
      if length bytes == 0 then Err (Short total)
      else if nat_lt room 5 then Err (BadLength (total - length bytes))
      else if nat_lt (length bytes) 4 then Err (Short total)
      else length_within least beside room (total - length bytes) (from_le_bytes w32 (take 4 bytes)) (drop 4 bytes)

  -- a fixed number of bytes
  unfoldable pub fixed_at : ℕ → ℕ → List ℕ → Result (List ℕ × List ℕ) BsonFault
  fixed_at n room bytes =
      if nat_lt room n then (if nat_lt (length bytes) room then Err (Short total) else Err (Trailing (total - length bytes + (room - 1))))
      else if nat_lt (length bytes) n then Err (Short total)
      else Ok (take n bytes, drop n bytes)

  -- a text, given its length including the final 00
  unfoldable pub text_at : ℕ → List ℕ → Result (List ℕ × List ℕ) BsonFault
  text_at n bytes =
      if nat_lt (length bytes) n then Err (Short total)
      else if slice_index bytes (n - 1) == 0 then (utf8_at (total - length bytes) (take (n - 1) bytes) >>= λ text. Ok (text, drop n bytes))
      else Err (BadText (total - length bytes))

  unfoldable pub string_at : ℕ → List ℕ → Result (List ℕ × List ℕ) BsonFault
  string_at room bytes = length_at 1 4 room bytes >>= λ x. text_at x.0 x.1

  -- subtype and content, given the length
  unfoldable pub content_at : ℕ → List ℕ → Result (Datum × List ℕ) BsonFault
  content_at n [] = Err (Short total)
  content_at n (subtype ∷ bytes) = if nat_lt (length bytes) n then Err (Short total) else Ok (binary_value subtype (take n bytes), drop n bytes)

  unfoldable pub binary_at : ℕ → List ℕ → Result (Datum × List ℕ) BsonFault
  binary_at room bytes = length_at 0 5 room bytes >>= λ x. content_at x.0 x.1

  unfoldable pub boolean_at : List ℕ → Result (Datum × List ℕ) BsonFault
  boolean_at [] = Err (Short total)
  boolean_at (zero ∷ bytes) = Ok (boolean_value false, bytes)
  boolean_at (suc zero ∷ bytes) = Ok (boolean_value true, bytes)
  boolean_at (suc (suc b) ∷ bytes) = Err (BadBool (total - (length bytes + 1)))

  -- a document or an array where no level is left
  unfoldable pub deep_unless : List ℕ → Result (ℕ × List ℕ) BsonFault → BsonFault
  deep_unless bytes (Err (BadLength offset)) = BadLength offset
  deep_unless bytes read = if length bytes == 0 then Short total else Deep (total - length bytes)

  unfoldable pub deep_at : ℕ → List ℕ → BsonFault
  deep_at room bytes = deep_unless bytes (length_at 5 0 room bytes)

  unfoldable pub scalar_at : Reader
  scalar_at types.Text room bytes = string_at room bytes >>= λ x. Ok (string_value x.0, x.1)
  scalar_at types.Doc room bytes = Err (deep_at room bytes)
  scalar_at types.Array room bytes = Err (deep_at room bytes)
  scalar_at types.Binary room bytes = binary_at room bytes
  scalar_at types.ObjectId room bytes = fixed_at 12 room bytes >>= λ x. Ok (object_id_value x.0, x.1)
  scalar_at types.Bool room bytes = boolean_at bytes
  scalar_at types.Date room bytes = fixed_at 8 room bytes >>= λ x. Ok (date_value (cast_signed w64 (from_le_bytes w64 x.0)), x.1)
  scalar_at types.Null room bytes = Ok (null_value, bytes)
  scalar_at types.Int32 room bytes = fixed_at 4 room bytes >>= λ x. Ok (int32_value (cast_signed w32 (from_le_bytes w32 x.0)), x.1)
  scalar_at types.Timestamp room bytes = fixed_at 8 room bytes >>= λ x. Ok (timestamp_value (from_le_bytes w64 x.0), x.1)
  scalar_at types.Int64 room bytes = fixed_at 8 room bytes >>= λ x. Ok (int64_value (cast_signed w64 (from_le_bytes w64 x.0)), x.1)
  scalar_at types.MinKey room bytes = Ok (min_key_value, bytes)
  scalar_at types.MaxKey room bytes = Ok (max_key_value, bytes)

  -- A name ends at its first 00; the offset is that of its first byte.
  unfoldable pub name_from : ℕ → ℕ → List ℕ → Result (List ℕ × List ℕ) BsonFault
  name_from offset zero bytes = Err (BadText offset)
  name_from offset (suc room) [] = Err (Short total)
  name_from offset (suc room) (b ∷ bytes) =
      if b == 0 then Ok ([], bytes) else (name_from offset room bytes >>= λ x. Ok (b ∷ x.0, x.1))

  -- the room that is left after a name: the value ends before the document's last byte
  unfoldable pub room_at : ℕ → List ℕ → Result ℕ BsonFault
  room_at zero rest = Err (Trailing (total - (length rest + 1)))
  room_at (suc room) rest = Ok (suc room)

  -- a name in an array: the room and the bytes after it
  unfoldable pub index_at : ℕ → List ℕ → Result (ℕ × List ℕ) BsonFault
  index_at room bytes = do
    name ← name_from (total - length bytes) room bytes
    left ← room_at (room - (length bytes - length name.1)) name.1
    Ok (left, name.1)

  -- a name in a document: its text, and the room and the bytes after it
  unfoldable pub name_at : ℕ → List ℕ → Result (List ℕ × ℕ × List ℕ) BsonFault
  name_at room bytes = do
    name ← name_from (total - length bytes) room bytes
    text ← utf8_at (total - length bytes) name.0
    left ← room_at (room - (length bytes - length name.1)) name.1
    Ok (text, left, name.1)

  unfoldable pub checked_type : ℕ → ℕ → List ℕ → Option ElementType → Result (Option ElementType × List ℕ) BsonFault
  checked_type room b bytes None = Err (BadType (total - (length bytes + 1)) b)
  checked_type room b bytes (Some type_byte) = if room == 0 then Err (Trailing (total - (length bytes + 1))) else Ok (Some type_byte, bytes)

  -- the type of the next element, or none at the 00 that ends the document
  unfoldable pub type_at : ℕ → List ℕ → Result (Option ElementType × List ℕ) BsonFault
  type_at zero bytes = Err (Trailing (total - (length bytes + 1)))
  type_at (suc room) [] = Err (Short total)
  type_at (suc room) (b ∷ bytes) =
      if b == 0 then (if room == 0 then Ok (None, bytes) else Err (Trailing (total - (length bytes + 1))))
      else checked_type room b bytes (type_from b)

  unfoldable pub field_behind : Reader → ℕ → Option ElementType → List ℕ → Result (Option (List ℕ × Datum) × List ℕ) BsonFault
  field_behind value_at room None bytes = Ok (None, bytes)
  field_behind value_at room (Some type_byte) bytes = do
    name ← name_at (room - 1) bytes
    value ← value_at type_byte name.1 name.2
    Ok (Some (name.0, value.0), value.1)

  -- the next field, or none at the end of the document
  unfoldable pub field_at : Reader → ℕ → List ℕ → Result (Option (List ℕ × Datum) × List ℕ) BsonFault
  field_at value_at room bytes = type_at room bytes >>= λ type_byte. field_behind value_at room type_byte.0 type_byte.1

  -- what precedes a value of an array: its type, and the room after its name, or nothing at the end of the array
  unfoldable pub index_behind : ℕ → Option ElementType → List ℕ → Result (Option (ElementType × ℕ) × List ℕ) BsonFault
  index_behind room None bytes = Ok (None, bytes)
  index_behind room (Some type_byte) bytes = index_at (room - 1) bytes >>= λ left. Ok (Some (type_byte, left.0), left.1)

  unfoldable pub item_head_at : ℕ → List ℕ → Result (Option (ElementType × ℕ) × List ℕ) BsonFault
  item_head_at room bytes = type_at room bytes >>= λ type_byte. index_behind room type_byte.0 type_byte.1

  unfoldable pub item_behind : Reader → ℕ → Option ElementType → List ℕ → Result (Option Datum × List ℕ) BsonFault
  item_behind value_at room None bytes = Ok (None, bytes)
  item_behind value_at room (Some type_byte) bytes = do
    left ← index_at (room - 1) bytes
    value ← value_at type_byte left.0 left.1
    Ok (Some value.0, value.1)

  unfoldable pub item_at : Reader → ℕ → List ℕ → Result (Option Datum × List ℕ) BsonFault
  item_at value_at room bytes = type_at room bytes >>= λ type_byte. item_behind value_at room type_byte.0 type_byte.1

  -- the fields after a first one; none if there is no first one
  unfoldable pub fields_behind : (ℕ → List ℕ → Result (Fields × List ℕ) BsonFault) → ℕ → List ℕ → Option (List ℕ × Datum) → List ℕ → Result (Fields × List ℕ) BsonFault
  fields_behind fields_at room bytes None rest = Ok (no_fields, rest)
  fields_behind fields_at room bytes (Some first) rest = do
    others ← fields_at (room - (length bytes - length rest)) rest
    Ok (field first.0 first.1 others.0, others.1)

  unfoldable pub items_behind : (ℕ → List ℕ → Result (Items × List ℕ) BsonFault) → ℕ → List ℕ → Option Datum → List ℕ → Result (Items × List ℕ) BsonFault
  items_behind items_at room bytes None rest = Ok (no_items, rest)
  items_behind items_at room bytes (Some first) rest = do
    others ← items_at (room - (length bytes - length rest)) rest
    Ok (item first others.0, others.1)

  -- The fields, and the 00 after them. The number exceeds that of the bytes.
  unfoldable pub fields_with : Reader → ℕ → ℕ → List ℕ → Result (Fields × List ℕ) BsonFault
  fields_with value_at zero room bytes = Err (Short total)
  fields_with value_at (suc n) room bytes = field_at value_at room bytes >>= λ first. fields_behind (fields_with value_at n) room bytes first.0 first.1

  unfoldable pub items_with : Reader → ℕ → ℕ → List ℕ → Result (Items × List ℕ) BsonFault
  items_with value_at zero room bytes = Err (Short total)
  items_with value_at (suc n) room bytes = item_at value_at room bytes >>= λ first. items_behind (items_with value_at n) room bytes first.0 first.1

  unfoldable pub document_with : Reader → ℕ → List ℕ → Result (Fields × List ℕ) BsonFault
  document_with value_at room bytes = length_at 5 0 room bytes >>= λ x. fields_with value_at (length x.1 + 1) (x.0 - 4) x.1

  unfoldable pub array_with : Reader → ℕ → List ℕ → Result (Items × List ℕ) BsonFault
  array_with value_at room bytes = length_at 5 0 room bytes >>= λ x. items_with value_at (length x.1 + 1) (x.0 - 4) x.1

  -- a value with at most n nested levels
  unfoldable pub value_at : ℕ → Reader
  value_at zero type_byte room bytes = scalar_at type_byte room bytes
  value_at (suc n) types.Doc room bytes = document_with (value_at n) room bytes >>= λ x. Ok (document_value x.0, x.1)
  value_at (suc n) types.Array room bytes = array_with (value_at n) room bytes >>= λ x. Ok (array_value x.0, x.1)
  value_at (suc n) type_byte room bytes = scalar_at type_byte room bytes

-- The document at the beginning of the bytes, with at most n nested levels, and the bytes after it. No document contains it, so its length can be any.
unfoldable pub document_at : ℕ → List ℕ → Result (Fields × List ℕ) BsonFault
document_at depth bytes = document_with (length bytes) (value_at (length bytes) depth) length_limit bytes

-- how many levels may be nested in the outermost document
abbrev pub depth_inside : ℕ
depth_inside = most_depth_kept - 1

-- the document at the beginning of the bytes, and its length
unfoldable pub whole_at : List ℕ → Result (Fields × ℕ) BsonFault
whole_at bytes = document_at depth_inside bytes >>= λ x. Ok (x.0, length bytes - length x.1)
