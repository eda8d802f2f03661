-- How many bytes rows and answers have, and which are too many (MongoDB manual, "Aggregation Pipeline Limits", "MongoDB Limits and
-- Thresholds": BSON document size). Own: the 104,857,600 bytes of a half and of an answer.
use Rattle.std.specs.Prelude.{ℕ, ◌+◌, List, [], ◌∷◌, length, sum_by, Option, Some, None, nat_lt, codes, if◌then◌else◌}
use Rattle.bson_model.specs.Tree.{Fields, no_fields, field}
use Rattle.bson_model.specs.Spelling.{written}
use Rattle.bson_model.specs.Limits.{most_bytes_kept}
use Rattle.pipeline_model.specs.Groups.{Cell, sum_cell, count_cell, extreme_cell, PartialRow}
use Rattle.pipeline_model.specs.Halves.{Rows, document_rows, partial_rows, counted_rows}

abbrev pub document_length : Fields → ℕ
document_length document = length (written document)

abbrev pub documents_length : List Fields → ℕ
documents_length docs = sum_by document_length docs

-- 16 for a sum or a count, the bytes of {v: value} for an extreme value
abbrev pub cell_length : Cell → ℕ
cell_length (sum_cell z narrow) = 16
cell_length (count_cell n) = 16
cell_length (extreme_cell d) = document_length (field (codes "v") d no_fields)

-- the bytes of {_id: key}, and those of the cells
abbrev pub row_length : PartialRow → ℕ
row_length row = document_length (field (codes "_id") row.key no_fields) + sum_by cell_length row.cells

abbrev pub rows_length : Rows → ℕ
rows_length (document_rows docs) = documents_length docs
rows_length (partial_rows rows) = sum_by row_length rows
rows_length (counted_rows n) = 0

abbrev pub most_bytes_answered : ℕ
most_bytes_answered = 104857600

abbrev pub if_more : ℕ → ℕ → Option ℕ
if_more limit n = if nat_lt limit n then Some n else None

-- the length that is too much of a half
abbrev pub excess_of_half : Rows → Option ℕ
excess_of_half rows = if_more most_bytes_answered (rows_length rows)

-- the length of the first document that is too long
abbrev pub excess_of_documents : List Fields → Option ℕ
excess_of_documents [] = None
excess_of_documents (document ∷ docs) = elim (if_more most_bytes_kept (document_length document)) [ None ↦ excess_of_documents docs | Some n ↦ Some n ]

-- the length that is too much of an answer: of the whole, else of the first document that is too long
abbrev pub excess_of_answer : List Fields → Option ℕ
excess_of_answer docs = elim (if_more most_bytes_answered (documents_length docs)) [ None ↦ excess_of_documents docs | Some n ↦ Some n ]
