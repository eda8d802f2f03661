-- What a change makes of a document, or its first fault (MongoDB manual, "$set", "$unset", "$inc", "$min", "$max", "Replace a
-- Document", "Document Field Order and the _id Field"). Only documents are gone into, each by the first field of a name. Own: a
-- value on the way that is null or an array is no document; sums past int64 are faults.
use Rattle.std.specs.Prelude.{ℕ, ◌-◌, ◌^◌, ℤ, pos, negsuc, ◌+ℤ◌, int_le, int_lt, List, [], ◌∷◌, length, Bool, true, false, ◌&&◌, ◌||◌, Option, Some, None, Result, Ok, Err, codes, nat_lt, if◌then◌else◌}
use Rattle.std.specs.Option.{option_and_then}
use Rattle.std.specs.Ordering.{is_lt, is_gt}
use Rattle.std.specs.Str.{bytes_eq}
use Rattle.bson_model.specs.Tree.{Datum, document_value, int32_value, int64_value, Fields, no_fields, field, get, document_depth}
use Rattle.bson_model.specs.Spelling.{written}
use Rattle.bson_model.specs.Limits.{most_bytes_kept, most_depth_kept}
use Rattle.value_model.specs.Order.{order, same_value}
use Rattle.value_model.specs.Keys.{key_of}
use Rattle.query_model.specs.Paths.{Path, as_document}
use Rattle.query_model.specs.KeySpans.{is_id}
use Rattle.query_model.specs.Changes.{Edit, set_edit, unset_edit, inc_edit, min_edit, max_edit, Change, replacement, edits, number_of}

-- why a write changes nothing
pub data WriteFault : Type 0 where
  -- a document with this key is there, and may not be changed
  duplicate_fault : WriteFault
  -- the key would be another
  immutable_fault : WriteFault
  -- a sum is past int64
  overflow_fault : WriteFault
  -- the result has too many bytes or levels
  too_large_fault : WriteFault
  -- a value to be added to is no number
  not_number_fault : WriteFault
  -- a value on the way is no document
  not_document_fault : WriteFault

infixl 10 ◌>>=◌
abbrev pub ◌>>=◌ : {A B : Type 0} → Result A WriteFault → (A → Result B WriteFault) → Result B WriteFault
(Ok x) >>= f = f x
(Err e) >>= f = Err e

-- the first field of that name has this value; where there is none, it is appended to the others
abbrev pub with_field : List ℕ → Datum → Fields → Fields
with_field name value no_fields = field name value no_fields
with_field name value (field first d ms) = if bytes_eq first name then field first value ms else field first d (with_field name value ms)

-- the first field of that name is removed
abbrev pub without_field : List ℕ → Fields → Fields
without_field name no_fields = no_fields
without_field name (field first d ms) = if bytes_eq first name then ms else field first d (without_field name ms)

-- the value at a path
abbrev pub value_at : Path → Fields → Option Datum
value_at [] document = None
value_at (part ∷ []) document = get part document
value_at (part ∷ parts) document = option_and_then (value_at parts) (option_and_then as_document (get part document))

-- the document on the way, which is made where there is no value
abbrev pub on_the_way : Option Datum → Result Fields WriteFault
on_the_way None = Ok no_fields
on_the_way (Some (document_value ms)) = Ok ms
on_the_way (Some d) = Err not_document_fault

-- the document that has the value at the path
abbrev pub put_at : Path → Datum → Fields → Result Fields WriteFault
put_at [] value document = Ok document
put_at (part ∷ []) value document = Ok (with_field part value document)
put_at (part ∷ parts) value document = do
  inner ← on_the_way (get part document)
  changed ← put_at parts value inner
  Ok (with_field part (document_value changed) document)

-- the document in a field, changed, if there is one
abbrev pub change_inside : List ℕ → (Fields → Fields) → Option Datum → Fields → Fields
change_inside part change (Some (document_value ms)) document = with_field part (document_value (change ms)) document
change_inside part change found document = document

-- the document without the value at the path
abbrev pub take_at : Path → Fields → Fields
take_at [] document = document
take_at (part ∷ []) document = without_field part document
take_at (part ∷ parts) document = change_inside part (take_at parts) (get part document) document

abbrev pub is_int32 : ℤ → Bool
is_int32 z = int_le (negsuc (2 ^ 31 - 1)) z && int_lt z (pos (2 ^ 31))

abbrev pub is_int64 : ℤ → Bool
is_int64 z = int_le (negsuc (2 ^ 63 - 1)) z && int_lt z (pos (2 ^ 63))

-- a sum of which one number at least is an int64
abbrev pub long_sum : ℤ → Result Datum WriteFault
long_sum z = if is_int64 z then Ok (int64_value z) else Err overflow_fault

-- the sum of two int32 is one where it fits
abbrev pub short_sum : ℤ → Result Datum WriteFault
short_sum z = if is_int32 z then Ok (int32_value z) else long_sum z

-- the operand added to the value there
abbrev pub sum_with : Datum → Option Datum → Result Datum WriteFault
sum_with n None = Ok n
sum_with (int32_value n) (Some (int32_value z)) = short_sum (z +ℤ n)
sum_with (int32_value n) (Some (int64_value z)) = long_sum (z +ℤ n)
sum_with (int64_value n) (Some (int32_value z)) = long_sum (z +ℤ n)
sum_with (int64_value n) (Some (int64_value z)) = long_sum (z +ℤ n)
sum_with n (Some d) = Err not_number_fault

-- the operand where it is less than the value there, or there is none
abbrev pub lesser_of : Datum → Option Datum → Datum
lesser_of value None = value
lesser_of value (Some d) = if is_lt (order value d) then value else d

-- the operand where it is greater
abbrev pub greater_of : Datum → Option Datum → Datum
greater_of value None = value
greater_of value (Some d) = if is_gt (order value d) then value else d

-- one edit, whatever it does to the key
abbrev pub edited_at : Path → Edit → Fields → Result Fields WriteFault
edited_at path (set_edit value) document = put_at path value document
edited_at path unset_edit document = Ok (take_at path document)
edited_at path (inc_edit n) document = sum_with n (value_at path document) >>= λ sum. put_at path sum document
edited_at path (min_edit value) document = put_at path (lesser_of value (value_at path document)) document
edited_at path (max_edit value) document = put_at path (greater_of value (value_at path document)) document

-- two keys are one where they compare equal
abbrev pub same_key : Option Datum → Option Datum → Bool
same_key (Some a) (Some b) = same_value a b
same_key a b = false

-- the document after, where it has the key that it had before
abbrev pub if_same_key : Fields → Fields → Result Fields WriteFault
if_same_key before after = if same_key (key_of after) (key_of before) then Ok after else Err immutable_fault

-- one edit; the key is judged at the path `_id`
abbrev pub edited : Path → Edit → Fields → Result Fields WriteFault
edited path edit document = edited_at path edit document >>= λ after. if is_id path then if_same_key document after else Ok after

-- the edits in turn
abbrev pub edited_by : List (Path × Edit) → Fields → Result Fields WriteFault
edited_by [] document = Ok document
edited_by (e ∷ es) document = edited e.0 e.1 document >>= edited_by es

-- a replacement without `_id` has the old one first
abbrev pub with_old_key : Fields → Option Datum → Option Datum → Fields
with_old_key document None (Some key) = field (codes "_id") key document
with_old_key document own old = document

-- what the change makes of a document, of any size
abbrev pub changed_by : Change → Fields → Result Fields WriteFault
changed_by (replacement document) before = if_same_key before (with_old_key document (key_of document) (key_of before))
changed_by (edits es) before = edited_by es before

-- A document is stored where it has at most 16 mebibytes and 100 levels (MongoDB manual, "MongoDB Limits and Thresholds", BSON
-- document size and nested depth).
abbrev pub is_too_large : Fields → Bool
is_too_large document = nat_lt most_bytes_kept (length (written document)) || nat_lt most_depth_kept (document_depth document)

-- only the result is judged by its size
abbrev pub changed : Change → Fields → Result Fields WriteFault
changed change before = changed_by change before >>= λ after. if is_too_large after then Err too_large_fault else Ok after
