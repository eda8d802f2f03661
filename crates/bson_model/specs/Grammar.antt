-- Which bytes encode a document (BSON 1.1, "Specification"), by cases on the document: its stated length is the
-- number of its bytes, and each element encodes its field. The names in an array may be any.
use Rattle.std.specs.Prelude.{◌≡◌, ◌≢◌, ℕ, ◌+◌, ◌<◌, ◌≤◌, ◌^◌, List, [], ◌∷◌, ◌++◌, length, take, slice_index, FitsSigned}
use Rattle.std.specs.Int.{w32, w64, to_le_bytes, cast_unsigned}
use Rattle.std.specs.Str.{IsUtf8}
use Rattle.std.specs.List.{AllByRecursion}
use Rattle.bson_model.specs.Tree.{Datum, string_value, document_value, array_value, binary_value, object_id_value, boolean_value, date_value, null_value, int32_value, timestamp_value, int64_value, min_key_value, max_key_value, Items, no_items, item, Fields, no_fields, field, document_depth}
use Rattle.bson_model.specs.Spelling.{type_byte_of, string, framed, element, boolean_byte}
use Rattle.bson_model.specs.Limits.{length_limit, most_depth_kept}

-- Each item is a byte. Reading past the last item gives 0.
abbrev pub AreBytes : List ℕ → Type 0
AreBytes bytes = (i : ℕ) → slice_index bytes i < 256

-- a name ends at its first 00
abbrev pub HasNoZero : List ℕ → Type 0
HasNoZero s = AllByRecursion (λ b. b ≢ 0) s

abbrev mutual
  pub ReadsValue : List ℕ → Datum → Type 0
  ReadsValue bytes (string_value s) = (bytes ≡ string s) × IsUtf8 s × (length s + 1 < length_limit)
  ReadsValue bytes (document_value ms) = (body : List ℕ) × (bytes ≡ framed body) × (length body + 5 < length_limit) × ReadsFields body ms
  ReadsValue bytes (array_value ds) = (body : List ℕ) × (bytes ≡ framed body) × (length body + 5 < length_limit) × ReadsItems body ds
  ReadsValue bytes (binary_value subtype content) = (bytes ≡ to_le_bytes w32 (length content) ++ (subtype ∷ content)) × (length content < length_limit)
  ReadsValue bytes (object_id_value content) = (bytes ≡ content) × (length content ≡ 12)
  ReadsValue bytes (boolean_value b) = bytes ≡ boolean_byte b ∷ []
  ReadsValue bytes (date_value z) = (bytes ≡ to_le_bytes w64 (cast_unsigned w64 z)) × FitsSigned w64 z
  ReadsValue bytes null_value = bytes ≡ []
  ReadsValue bytes (int32_value z) = (bytes ≡ to_le_bytes w32 (cast_unsigned w32 z)) × FitsSigned w32 z
  ReadsValue bytes (timestamp_value n) = (bytes ≡ to_le_bytes w64 n) × (n < 2 ^ 64)
  ReadsValue bytes (int64_value z) = (bytes ≡ to_le_bytes w64 (cast_unsigned w64 z)) × FitsSigned w64 z
  ReadsValue bytes min_key_value = bytes ≡ []
  ReadsValue bytes max_key_value = bytes ≡ []

  -- the elements of an array, with any names
  pub ReadsItems : List ℕ → Items → Type 0
  ReadsItems bytes no_items = bytes ≡ []
  ReadsItems bytes (item d ds) = (name value rest : List ℕ) × (bytes ≡ element (type_byte_of d) name value ++ rest) × HasNoZero name × ReadsValue value d × ReadsItems rest ds

  -- the elements of a document
  pub ReadsFields : List ℕ → Fields → Type 0
  ReadsFields bytes no_fields = bytes ≡ []
  ReadsFields bytes (field name d ms) = (value rest : List ℕ) × (bytes ≡ element (type_byte_of d) name value ++ rest) × HasNoZero name × IsUtf8 name × ReadsValue value d × ReadsFields rest ms

-- These bytes, all of them, encode this document.
abbrev pub ReadsAs : List ℕ → Fields → Type 0
ReadsAs bytes ms = (body : List ℕ) × (bytes ≡ framed body) × (length body + 5 < length_limit) × ReadsFields body ms

-- A supported document is nested within 100 levels (MongoDB manual, "MongoDB Limits and Thresholds", nested depth).
abbrev pub IsWithinDepth : Fields → Type 0
IsWithinDepth ms = document_depth ms ≤ most_depth_kept

-- The bytes begin with this document, which is supported, and this number of them encode it.
abbrev pub BeginsWith : List ℕ → ℕ → Fields → Type 0
BeginsWith bytes n ms = (n ≤ length bytes) × ReadsAs (take n bytes) ms × IsWithinDepth ms
