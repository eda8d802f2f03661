-- The edits appended, and those of what is left of the document, are those of the whole.
use Rattle.std.proofs.Common.{◌≡◌, drop}
use Rattle.bson_values.specs.View.{fields_of}
use Rattle.query_model.specs.Changes.{read_edits}
use Rattle.update_ops.specs.Reads.{behind}
use Rattle.update_ops.specs.View.{edits_of, operator_of}
use Rattle.update_ops.proofs.parser.push_edits.Given as goal

abbrev pub invariant-loop-field : goal.invariant-loop-field
invariant-loop-field l =
    behind (edits_of l.edits.items) (read_edits (operator_of l.operator) (fields_of (drop l.field-index l.field-items)))
    ≡ behind (edits_of l.initial.edits.items) (read_edits (operator_of l.operator) l.document)
