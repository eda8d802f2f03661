use Rattle.std.proofs.Common.{◌≡◌}
use Rattle.std.specs.Vec.Iter.{into_iter_items}
use Rattle.bson_values.specs.View.{items_of}
use Rattle.command_model.specs.Writes.{documents_in}
use Rattle.command_fields.proofs.Copied.{with_prefix}
use Rattle.command_fields.proofs.documents.documents_in.Given as goal

abbrev pub invariant-loop-value : goal.invariant-loop-value
invariant-loop-value l = with_prefix l.documents.items (documents_in (items_of (into_iter_items l.value-iterator))) ≡ documents_in (items_of l.fn.values.items)
