use Rattle.std.proofs.Common.{◌≡◌, drop}
use Rattle.std.specs.Option.{is_some}
use Rattle.bson_values.specs.View.{items_of}
use Rattle.command_model.specs.Writes.{documents_in}
use Rattle.command_fields.proofs.write_fields.are_documents.Given as goal

abbrev pub invariant-loop-value : goal.invariant-loop-value
invariant-loop-value l = is_some (documents_in (items_of (drop l.value-index l.values))) ≡ is_some (documents_in (items_of l.values))
