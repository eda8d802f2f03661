-- The documents of a collection at a time, in the order of their keys: entry by entry, each sets or removes the document under its key (MongoDB manual, "Read
-- Concern \"snapshot\"", "Comparison/Sort Order"; that a read starts from the order of keys is own).
use Rattle.std.specs.Prelude.{◌≡◌, ℕ, List, [], ◌∷◌, map, filter, nat_le, Bool, Option, Some, None, if◌then◌else◌}
use Rattle.std.specs.BTreeMap.{insert_entry, is_at}
use Rattle.std.specs.List.Sorted.{IsStrictlySortedBy}
use Rattle.std.specs.Map.{keys_of, values_of, lookup, remove_entry}
use Rattle.std.specs.Str.{bytes_eq}
use Rattle.bson_model.specs.Tree.{Datum, Fields}
use Rattle.value_model.specs.Order.{order}
use Rattle.history_model.specs.History.{Entry, key_written, effect}

-- documents, each with its key
abbrev pub Rows : Type 0
Rows = List (Datum × Fields)

-- the rows rise by their keys, so that each key occurs once
abbrev pub AreInOrder : Rows → Type 0
AreInOrder rows = IsStrictlySortedBy order (keys_of rows)

-- the document under a key, if any
abbrev pub document_under : Datum → Rows → Option Fields
document_under key rows = lookup (is_at (order key)) rows

-- the rows after this document, or none, is stored under the key
abbrev pub put_under : Datum → Option Fields → Rows → Rows
put_under key (Some document) rows = insert_entry order rows key document
put_under key None rows = remove_entry (is_at (order key)) rows

-- the rows after an entry that writes this key, by whether it belongs to the collection
abbrev pub row_written : Bool → Entry → Option Datum → Rows → Rows
row_written own e None rows = rows
row_written own e (Some key) rows = if own then put_under key (effect e.operation (document_under key rows)).0 rows else rows

-- the rows after entries, in order
abbrev pub rows_after : List ℕ → Rows → List Entry → Rows
rows_after namespace rows [] = rows
rows_after namespace rows (e ∷ es) = rows_after namespace (row_written (bytes_eq e.namespace namespace) e (key_written e.operation) rows) es

-- the collection at a time
abbrev pub rows_at : List Entry → List ℕ → ℕ → Rows
rows_at history namespace time = rows_after namespace [] (filter (λ e. nat_le e.time time) history)

abbrev pub documents_at : List Entry → List ℕ → ℕ → List Fields
documents_at history namespace time = values_of (rows_at history namespace time)

-- The documents under all keys, each once, in the order of the keys.
pub record ListsDocuments (under : Datum → Option Fields) (documents : List Fields) : Type 0 where
  pub rows : Rows
  pub ordered : AreInOrder rows
  pub found : (key : Datum) → document_under key rows ≡ under key
  pub shown : documents ≡ values_of rows
