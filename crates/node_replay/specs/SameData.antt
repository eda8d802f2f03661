-- Whether two values are the same data: of one type, with one content (BSON 1.1, "Specification": an int32 and an int64 are different
-- values, and so are documents with the same fields in another order).
use Rattle.std.specs.Prelude.{Bool, true, false, not, ◌&&◌, ◌==◌, Option, Some, None}
use Rattle.std.specs.Ordering.{int_eq}
use Rattle.std.specs.Str.{bytes_eq}
use Rattle.bson_model.specs.Tree.{Datum, string_value, document_value, array_value, binary_value, object_id_value, boolean_value, date_value, null_value, int32_value, timestamp_value, int64_value, min_key_value, max_key_value, Items, no_items, item, Fields, no_fields, field}
use Rattle.record_model.specs.Records.{OutcomeWords}

abbrev pub same_truth : Bool → Bool → Bool
same_truth true b = b
same_truth false b = not b

abbrev mutual
  pub same_datum : Datum → Datum → Bool
  same_datum (string_value a) (string_value b) = bytes_eq a b
  same_datum (document_value a) (document_value b) = same_fields a b
  same_datum (array_value a) (array_value b) = same_items a b
  same_datum (binary_value kind a) (binary_value other b) = kind == other && bytes_eq a b
  same_datum (object_id_value a) (object_id_value b) = bytes_eq a b
  same_datum (boolean_value a) (boolean_value b) = same_truth a b
  same_datum (date_value a) (date_value b) = int_eq a b
  same_datum null_value null_value = true
  same_datum (int32_value a) (int32_value b) = int_eq a b
  same_datum (timestamp_value a) (timestamp_value b) = a == b
  same_datum (int64_value a) (int64_value b) = int_eq a b
  same_datum min_key_value min_key_value = true
  same_datum max_key_value max_key_value = true
  same_datum a b = false

  pub same_items : Items → Items → Bool
  same_items no_items no_items = true
  same_items (item a items) (item b others) = same_datum a b && same_items items others
  same_items a b = false

  pub same_fields : Fields → Fields → Bool
  same_fields no_fields no_fields = true
  same_fields (field name a fields) (field other b others) = bytes_eq name other && (same_datum a b && same_fields fields others)
  same_fields a b = false

abbrev pub same_key_data : Option Datum → Option Datum → Bool
same_key_data None None = true
same_key_data (Some a) (Some b) = same_datum a b
same_key_data a b = false

-- two outcomes are the same
abbrev pub same_words : OutcomeWords → OutcomeWords → Bool
same_words a b = a.count == b.count && (a.modified == b.modified && (same_key_data a.upserted b.upserted && int_eq a.code b.code))
