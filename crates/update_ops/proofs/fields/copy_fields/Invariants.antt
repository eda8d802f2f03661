-- The fields appended, and those that are left, are the whole.
use Rattle.std.proofs.Common.{◌≡◌, drop}
use Rattle.bson_model.specs.Tree.{joined}
use Rattle.bson_values.specs.View.{fields_of}
use Rattle.update_ops.proofs.fields.copy_fields.Given as goal

abbrev pub invariant-loop-field : goal.invariant-loop-field
invariant-loop-field l =
    joined l.document (fields_of (drop l.field-index l.fields)) ≡ joined l.initial.document (fields_of l.fields)
