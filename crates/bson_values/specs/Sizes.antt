-- How many documents and arrays are nested in a value: the measure of a recursion over values.
use Rattle.std.specs.Prelude.{ℕ, suc, ◌+◌}
use Rattle.bson_model.specs.Tree.{Datum, document_value, array_value, Items, no_items, item, Fields, no_fields, field}

abbrev mutual
  pub datum_size : Datum → ℕ
  datum_size (document_value ms) = suc (fields_size ms)
  datum_size (array_value ds) = suc (items_size ds)
  datum_size d = 0

  pub items_size : Items → ℕ
  items_size no_items = 0
  items_size (item d ds) = datum_size d + items_size ds

  pub fields_size : Fields → ℕ
  fields_size no_fields = 0
  fields_size (field name d ms) = datum_size d + fields_size ms

-- the number of fields of a document, and of values of an array
abbrev pub fields_count : Fields → ℕ
fields_count no_fields = 0
fields_count (field name d ms) = fields_count ms + 1

abbrev pub items_count : Items → ℕ
items_count no_items = 0
items_count (item d ds) = items_count ds + 1
