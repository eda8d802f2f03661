-- What is left of the document has an operator where the whole has.
use Rattle.std.proofs.Common.{◌≡◌, drop}
use Rattle.bson_values.specs.View.{fields_of}
use Rattle.query_model.specs.Changes.{has_operator}
use Rattle.update_ops.proofs.operators.has_operator.Given as goal

abbrev pub invariant-loop-field : goal.invariant-loop-field
invariant-loop-field l = has_operator (fields_of (drop l.field-index l.field-items)) ≡ has_operator l.document
