-- A small range, and documents around it.
use Rattle.std.specs.Prelude.{ℤ, pos, [], ◌∷◌, Some, true}
use Rattle.bson_model.specs.SampleDocuments.{id_document}
use Rattle.bson_model.specs.Tree.{Datum, Fields, int32_value, int64_value}
use Rattle.value_model.specs.Keys.{Range, key_bound}
use Rattle.history_model.specs.Documents.{Rows}
use Rattle.move_model.specs.Sources.{Source}
use Rattle.record_model.specs.Moves.{MovedDocument}
use Rattle.move_model.specs.Batches.{moved}

-- the keys from 10 to 20
abbrev pub from_ten : Range
from_ten = record { min = key_bound (int64_value (pos 10)); max = key_bound (int32_value (pos 20)) }

abbrev pub row : ℤ → Datum × Fields
row key = (int32_value key, id_document key)

abbrev pub five_rows : Rows
five_rows = row (pos 9) ∷ row (pos 10) ∷ row (pos 12) ∷ row (pos 19) ∷ row (pos 20) ∷ []

abbrev pub moved_row : ℤ → MovedDocument
moved_row key = moved (int32_value key) (Some (id_document key))

-- the first batch was handed out, up to the end
abbrev pub sent_batch : Source
sent_batch = record { range = from_ten; number = 1; cursor = key_bound (int32_value (pos 20)); changed = []; unanswered = true }
