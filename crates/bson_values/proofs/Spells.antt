-- The bytes written for a sound value encode it: its texts, names and numbers are valid.
use Rattle.std.proofs.Common.{◌≡◌, ◌≢◌, ℕ, ◌+◌, ◌%◌, ◌<◌, ◌≤◌, ◌^◌, List, [], ◌∷◌, ◌++◌, length, refl, arith, length-append}
use Rattle.std.specs.Fmt.{decimal}
use Rattle.std.proofs.lemmas.Fmt.{decimal_by_steps}
use Rattle.bson_model.specs.Tree.{Datum, string_value, document_value, array_value, binary_value, object_id_value, boolean_value, date_value, null_value, int32_value, timestamp_value, int64_value, min_key_value, max_key_value, Items, no_items, item, Fields, no_fields, field}
use Rattle.bson_model.specs.Spelling.{type_byte_of, element, written, written_value, written_items, written_fields}
use Rattle.bson_model.specs.Grammar.{HasNoZero, ReadsValue, ReadsItems, ReadsFields, ReadsAs}
use Rattle.bson_model.specs.Limits.{length_limit, most_bytes_written}
use Rattle.bson_model.proofs.Lengths.{length-string, length-framed, length-element}
use Rattle.bson_values.specs.Sound.{IsDatum, AreItems, AreFields}

no_zero_behind : (s : List ℕ) (b : ℕ) → HasNoZero s → b ≢ 0 → HasNoZero (s ++ b ∷ [])
no_zero_behind [] b all here = (here, tt)
no_zero_behind (c ∷ s) b all here = (all.0, no_zero_behind s b all.1 here)

-- no digit of a number is 00
pub decimal_no_zero : (n : ℕ) → n < 2 ^ 64 → HasNoZero (decimal n)
decimal_no_zero n small =
    decimal_by_steps (λ i s. HasNoZero s) (λ i l. (omega arith, tt)) (λ i s l all. no_zero_behind s (48 + i % 10) all (omega arith)) n small

mutual
  pub value_spelled : (d : Datum) → IsDatum d → length (written_value d) < length_limit → ReadsValue (written_value d) d
  value_spelled (string_value s) sound short = (refl, sound, omega (arith, length-string s))
  value_spelled (document_value ms) sound short =
      (written_fields ms, refl, omega (arith, length-framed (written_fields ms)), fields_spelled ms sound (omega (arith, length-framed (written_fields ms))))
  value_spelled (array_value ds) sound short =
      (written_items 0 ds, refl, omega (arith, length-framed (written_items 0 ds)), items_spelled 0 ds sound (omega (arith, length-framed (written_items 0 ds))))
  value_spelled (binary_value subtype content) sound short = (refl, omega arith)
  value_spelled (object_id_value content) sound short = (refl, sound)
  value_spelled (boolean_value b) sound short = refl
  value_spelled (date_value z) sound short = (refl, sound)
  value_spelled null_value sound short = refl
  value_spelled (int32_value z) sound short = (refl, sound)
  value_spelled (timestamp_value n) sound short = (refl, sound)
  value_spelled (int64_value z) sound short = (refl, sound)
  value_spelled min_key_value sound short = refl
  value_spelled max_key_value sound short = refl

  pub items_spelled : (i : ℕ) (ds : Items) → AreItems ds → i + length (written_items i ds) < length_limit → ReadsItems (written_items i ds) ds
  items_spelled i no_items sound short = refl
  items_spelled i (item d ds) sound short =
      let first : length (element (type_byte_of d) (decimal i) (written_value d)) ≡ length (decimal i) + length (written_value d) + 2 = length-element (type_byte_of d) (decimal i) (written_value d) in
      let whole : length (written_items i (item d ds)) ≡ length (element (type_byte_of d) (decimal i) (written_value d)) + length (written_items (i + 1) ds) = length-append (element (type_byte_of d) (decimal i) (written_value d)) (written_items (i + 1) ds) in
      (decimal i, written_value d, written_items (i + 1) ds, refl, decimal_no_zero i (omega (arith, short)), value_spelled d sound.0 (omega (arith, first, whole, short)), items_spelled (i + 1) ds sound.1 (omega (arith, first, whole, short)))

  pub fields_spelled : (ms : Fields) → AreFields ms → length (written_fields ms) < length_limit → ReadsFields (written_fields ms) ms
  fields_spelled no_fields sound short = refl
  fields_spelled (field name d ms) sound short =
      let first : length (element (type_byte_of d) name (written_value d)) ≡ length name + length (written_value d) + 2 = length-element (type_byte_of d) name (written_value d) in
      let whole : length (written_fields (field name d ms)) ≡ length (element (type_byte_of d) name (written_value d)) + length (written_fields ms) = length-append (element (type_byte_of d) name (written_value d)) (written_fields ms) in
      (written_value d, written_fields ms, refl, sound.0, sound.1, value_spelled d sound.2 (omega (arith, first, whole, short)), fields_spelled ms sound.3 (omega (arith, first, whole, short)))

pub written_spelled : (ms : Fields) → AreFields ms → length (written ms) ≤ most_bytes_written → ReadsAs (written ms) ms
written_spelled ms sound short =
    (written_fields ms, refl, omega (arith, length-framed (written_fields ms)), fields_spelled ms sound (omega (arith, length-framed (written_fields ms))))
