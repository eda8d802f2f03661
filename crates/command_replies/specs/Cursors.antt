-- The program's batches, by the definitions.
use Rattle.std.specs.Arc.{arc_value}
use Rattle.std.specs.Prelude.{map}
use Rattle.command_model.specs.Cursors as model
use Rattle.command_replies.specs.declared.answer.Batch.{Batch}

abbrev pub batch_view : Batch → model.Batch
batch_view b = record { cursor = b.cursor; namespace = b.namespace; documents = map arc_value b.documents.items; time = b.time.0 }
