-- What holds of each value that the program can hold: texts and names are UTF-8, names have no 00, numbers are in the range of their type.
use Rattle.std.specs.Prelude.{◌≡◌, ◌<◌, ◌^◌, FitsSigned, length}
use Rattle.std.specs.Int.{w32, w64}
use Rattle.std.specs.Str.{IsUtf8}
use Rattle.bson_model.specs.Tree.{Datum, string_value, document_value, array_value, binary_value, object_id_value, boolean_value, date_value, null_value, int32_value, timestamp_value, int64_value, min_key_value, max_key_value, Items, no_items, item, Fields, no_fields, field}
use Rattle.bson_model.specs.Grammar.{HasNoZero}

abbrev mutual
  pub IsDatum : Datum → Type 0
  IsDatum (string_value s) = IsUtf8 s
  IsDatum (document_value ms) = AreFields ms
  IsDatum (array_value ds) = AreItems ds
  IsDatum (binary_value subtype content) = subtype < 256
  IsDatum (object_id_value content) = length content ≡ 12
  IsDatum (boolean_value b) = Unit {0}
  IsDatum (date_value z) = FitsSigned w64 z
  IsDatum null_value = Unit {0}
  IsDatum (int32_value z) = FitsSigned w32 z
  IsDatum (timestamp_value n) = n < 2 ^ 64
  IsDatum (int64_value z) = FitsSigned w64 z
  IsDatum min_key_value = Unit {0}
  IsDatum max_key_value = Unit {0}

  pub AreItems : Items → Type 0
  AreItems no_items = Unit {0}
  AreItems (item d ds) = IsDatum d × AreItems ds

  pub AreFields : Fields → Type 0
  AreFields no_fields = Unit {0}
  AreFields (field name d ms) = HasNoZero name × IsUtf8 name × IsDatum d × AreFields ms
