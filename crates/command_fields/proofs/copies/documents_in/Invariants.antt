use Rattle.std.proofs.Common.{◌≡◌, drop}
use Rattle.bson_values.specs.View.{items_of}
use Rattle.command_model.specs.Writes.{documents_in}
use Rattle.command_fields.proofs.Copied.{with_prefix}
use Rattle.command_fields.proofs.copies.documents_in.Given as goal

abbrev pub invariant-loop-value : goal.invariant-loop-value
invariant-loop-value l = with_prefix l.documents.items (documents_in (items_of (drop l.value-index l.values))) ≡ documents_in (items_of l.values)
