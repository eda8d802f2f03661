-- The parts already read, and those of what is left, are those of the whole.
use Rattle.std.proofs.Common.{◌≡◌, drop}
use Rattle.bson_values.specs.View.{fields_of}
use Rattle.pipeline_model.specs.GroupSpecs.{read_group_fields}
use Rattle.group_accum.specs.PartReading.{parts_of, with_parts}
use Rattle.group_accum.proofs.parser.parse_parts.Given as goal

abbrev pub invariant-loop-field : goal.invariant-loop-field
invariant-loop-field l = with_parts (parts_of l.parts) (read_group_fields (fields_of (drop l.field-index l.field-items))) ≡ read_group_fields l.document
