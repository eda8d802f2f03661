-- The present documents of a collection in the order of keys, and which of them is next (MongoDB manual, "Comparison/Sort Order").
use Rattle.std.specs.Prelude.{ℕ, ◌-◌, ◌^◌, List, [], ◌∷◌, ◌++◌, Option, Some, None, Bool, true, ◌&&◌, filter}
use Rattle.std.specs.List.{slice_get}
use Rattle.std.specs.Ordering.{is_lt}
use Rattle.bson_values.specs.Tree.{Datum, Fields}
use Rattle.value_compare.specs.Keys.{Range, range_span, inside}
use Rattle.value_compare.specs.Order.{order}
use Rattle.history_model.specs.Documents.{Rows}
use Rattle.mvcc_collection.specs.Chains.{Past}
use Rattle.mvcc_collection.specs.Collections.{document_in}
use Rattle.mvcc_collection.specs.declared.collection.Collection.{Collection}

-- no version is later
abbrev pub newest : ℕ
newest = 2 ^ 64 - 1

abbrev pub row_of : Datum → Option Fields → Rows
row_of key None = []
row_of key (Some document) = (key, document) ∷ []

-- the documents at the time of the chains at the places of keys
abbrev pub rows_in : List Past → ℕ → List (Datum × ℕ) → Rows
rows_in chains time [] = []
rows_in chains time (e ∷ es) = row_of e.0 (document_in (slice_get chains e.1) time) ++ rows_in chains time es

-- each key that has a document now, in order
unfoldable pub rows_of : Collection → Rows
rows_of c = rows_in c.chains.items newest c.places.entries

-- the key comes after that one, if there is one
abbrev pub is_after : Option Datum → Datum → Bool
is_after None key = true
is_after (Some before) key = is_lt (order before key)

-- the rows of the range after the key
abbrev pub rows_after : Range → Option Datum → Rows → Rows
rows_after range before rows = filter (λ row. inside (range_span range) row.0 && is_after before row.0) rows

abbrev pub first_row : Rows → Option (Datum × Fields)
first_row [] = None
first_row (row ∷ rows) = Some row
