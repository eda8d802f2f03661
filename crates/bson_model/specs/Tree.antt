-- Values and documents as plain data (BSON 1.1, the productions `document` and `element`).
use Rattle.std.specs.Prelude.{ℕ, suc, List, Bool, Option, Some, None, max, if◌then◌else◌, ℤ}
use Rattle.std.specs.Str.{bytes_eq}

mutual
  -- a value of one of the thirteen supported types; strings and bytes are lists of bytes
  pub data Datum : Type 0 where
    string_value : List ℕ → Datum
    document_value : Fields → Datum
    array_value : Items → Datum
    -- subtype, bytes
    binary_value : ℕ → List ℕ → Datum
    object_id_value : List ℕ → Datum
    boolean_value : Bool → Datum
    -- milliseconds since 1970
    date_value : ℤ → Datum
    null_value : Datum
    int32_value : ℤ → Datum
    timestamp_value : ℕ → Datum
    int64_value : ℤ → Datum
    min_key_value : Datum
    max_key_value : Datum

  -- the values of an array, in order
  pub data Items : Type 0 where
    no_items : Items
    item : Datum → Items → Items

  -- the fields of a document, each a name and a value, in order; names may repeat
  pub data Fields : Type 0 where
    no_fields : Fields
    field : List ℕ → Datum → Fields → Fields

-- the first field of that name
abbrev pub get : List ℕ → Fields → Option Datum
get name no_fields = None
get name (field first value rest) = if bytes_eq first name then Some value else get name rest

-- how deeply documents and arrays are nested, the outermost being at depth 1
abbrev mutual
  pub value_depth : Datum → ℕ
  value_depth (document_value ms) = document_depth ms
  value_depth (array_value ds) = array_depth ds
  value_depth d = 0

  pub array_depth : Items → ℕ
  array_depth no_items = 1
  array_depth (item d ds) = max (suc (value_depth d)) (array_depth ds)

  pub document_depth : Fields → ℕ
  document_depth no_fields = 1
  document_depth (field name d ms) = max (suc (value_depth d)) (document_depth ms)

-- these fields, and then those
abbrev pub joined : Fields → Fields → Fields
joined no_fields ms = ms
joined (field name d prefix) ms = field name d (joined prefix ms)

-- these values, and then those
abbrev pub joined_items : Items → Items → Items
joined_items no_items ds = ds
joined_items (item d prefix) ds = item d (joined_items prefix ds)
