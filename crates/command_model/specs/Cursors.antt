-- Cursors: what `getMore` and `killCursors` share, and the batches that answer `find`, `aggregate` and `getMore` (MongoDB manual, "Cursors", "Cursor
-- Batches"; the order of the answers' fields is own).
use Rattle.std.specs.Prelude.{ℕ, ℤ, pos, List, Bool, ◌&&◌, not, codes}
use Rattle.std.specs.Option.{unwrap_or}
use Rattle.bson_model.specs.Tree.{Datum, string_value, document_value, array_value, int64_value, timestamp_value, Fields, no_fields, field}
use Rattle.base_model.specs.Names.{is_database_name, is_reserved}
use Rattle.pipeline_model.specs.Operands.{whole_number}
use Rattle.command_model.specs.AnswerParts.{document_items, ok, operation_time_at}

abbrev pub number_in : Datum → ℤ
number_in value = unwrap_or (whole_number value) (pos 0)

abbrev pub is_open_database : List ℕ → Bool
is_open_database database = is_database_name database && not (is_reserved database)

-- some of the documents that were read from a collection at a time, and the cursor that has the others, 0 where there are none
pub record Batch : Type 0 where
  pub cursor : ℤ
  pub namespace : List ℕ
  pub documents : List Fields
  pub time : ℕ

-- the batch under its name, `firstBatch` or `nextBatch`
abbrev pub cursor_shown : (name : List ℕ) → Batch → Fields
cursor_shown name batch =
    field (codes "id") (int64_value batch.cursor)
    (field (codes "ns") (string_value batch.namespace)
    (field name (array_value (document_items batch.documents))
    (field (codes "atClusterTime") (timestamp_value batch.time) no_fields)))

abbrev pub batch_document : (name : List ℕ) → Batch → Fields
batch_document name batch = field (codes "cursor") (document_value (cursor_shown name batch)) (ok (operation_time_at batch.time))
