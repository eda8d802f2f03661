-- The operands appended, and those of the operators that are left, are all.
use Rattle.std.proofs.Common.{◌≡◌, drop}
use Rattle.bson_model.specs.Tree.{Fields, joined}
use Rattle.bson_values.specs.View.{fields_of}
use Rattle.update_ops.specs.Starts.{operands_before}
use Rattle.update_ops.proofs.filters.push_operands.Given as goal

abbrev pub invariant-loop-field : goal.invariant-loop-field
invariant-loop-field l =
    (rest : Fields) → joined l.start (operands_before l.name (fields_of (drop l.field-index l.field-items)) rest)
    ≡ joined l.initial.start (operands_before l.name l.operators rest)
