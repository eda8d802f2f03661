use Rattle.std.proofs.Common.{◌≡◌, drop}
use Rattle.bson_model.specs.Tree.{joined, joined_items}
use Rattle.bson_values.specs.View.{items_of, fields_of}
use Rattle.bson_values.proofs.value.+copy.Given as goal

abbrev pub invariant-Array::copy-loop-value : goal.invariant-Array::copy-loop-value
invariant-Array::copy-loop-value l = joined_items l.copy (items_of (drop l.value-index l.value-items)) ≡ l.self

abbrev pub invariant-Document::copy-loop-field : goal.invariant-Document::copy-loop-field
invariant-Document::copy-loop-field l = joined l.copy (fields_of (drop l.field-index l.field-items)) ≡ l.self
