-- The fields already read, and those of what is left, are those of the whole.
use Rattle.std.proofs.Common.{◌≡◌, drop}
use Rattle.bson_values.specs.View.{fields_of}
use Rattle.field_paths.proofs.FieldLists.{read_each, with_front}
use Rattle.pipeline_model.specs.SortKeys.{read_sort_fields}
use Rattle.sort_keys.specs.FieldReading.{read_sort_field}
use Rattle.sort_keys.specs.View.{sort_fields_of}
use Rattle.sort_keys.proofs.parser.parse_fields.Given as goal

abbrev pub invariant-loop-field : goal.invariant-loop-field
invariant-loop-field l =
    with_front (sort_fields_of l.fields.items) (read_each read_sort_field (fields_of (drop l.field-index l.field-items))) ≡ read_sort_fields l.document
