use Rattle.std.proofs.Common.{◌≡◌}
use Rattle.std.specs.Vec.Iter.{into_iter_items}
use Rattle.bson_model.specs.Tree.{get}
use Rattle.bson_values.specs.View.{fields_of}
use Rattle.command_fields.proofs.documents.value_named.Given as goal

abbrev pub invariant-loop-field : goal.invariant-loop-field
invariant-loop-field l = get l.name (fields_of (into_iter_items l.field-iterator)) ≡ get l.name (fields_of l.fn.fields.items)
