-- The edits already read, and those of what is left of the document, are those of the whole.
use Rattle.std.proofs.Common.{◌≡◌, drop}
use Rattle.bson_values.specs.View.{fields_of}
use Rattle.query_model.specs.Changes.{read_operators}
use Rattle.update_ops.specs.Reads.{behind}
use Rattle.update_ops.specs.View.{edits_of}
use Rattle.update_ops.proofs.parser.parse_operators.Given as goal

abbrev pub invariant-loop-field : goal.invariant-loop-field
invariant-loop-field l =
    behind (edits_of l.edits.items) (read_operators (fields_of (drop l.field-index l.field-items))) ≡ read_operators l.document
