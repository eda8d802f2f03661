-- Parts of the documents that answer commands (MongoDB manual, "Command Response"; the order of fields is own).
use Rattle.std.specs.Prelude.{ℕ, pos, List, [], ◌∷◌, ◌^◌, ◌-◌, codes, if◌then◌else◌, nat_lt}
use Rattle.bson_model.specs.Tree.{Datum, document_value, date_value, int32_value, int64_value, timestamp_value, Items, no_items, item, Fields, no_fields, field}

abbrev pub number : ℕ → Datum
number n = int32_value (pos n)

-- a count, in 64 bits where it does not fit into 32
abbrev pub count : ℕ → Datum
count n = if nat_lt n (2 ^ 31) then int32_value (pos n) else int64_value (pos n)

-- a moment, in milliseconds since 1970, or the greatest date where that is less
abbrev pub moment_shown : ℕ → Datum
moment_shown moment = date_value (pos (if nat_lt moment (2 ^ 63) then moment else 2 ^ 63 - 1))

abbrev pub ok : Fields → Fields
ok more = field (codes "ok") (number 1) more

abbrev pub document_items : List Fields → Items
document_items [] = no_items
document_items (ms ∷ documents) = item (document_value ms) (document_items documents)

abbrev pub operation_time_at : ℕ → Fields
operation_time_at time = field (codes "operationTime") (timestamp_value time) no_fields
