use Rattle.std.proofs.Common.{◌≡◌, drop}
use Rattle.bson_model.specs.Tree.{get}
use Rattle.bson_values.specs.View.{fields_of}
use Rattle.bson_values.proofs.value.Document.get.Given as goal

abbrev pub invariant-loop-field : goal.invariant-loop-field
invariant-loop-field l = get l.name (fields_of (drop l.field-index l.field-items)) ≡ get l.name l.self
