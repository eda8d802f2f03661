-- What a batch of documents of the program is.
use Rattle.std.specs.Arc.{arc_value}
use Rattle.std.specs.Option.{option_map}
use Rattle.value_compare.specs.Bounds.{bound_of}
use Rattle.record_model.specs.Moves as moves
use Rattle.shard_records.specs.declared.batch.MovedDocument.{MovedDocument}
use Rattle.shard_records.specs.declared.batch.MoveBatch.{MoveBatch}

abbrev pub moved_view : MovedDocument → moves.MovedDocument
moved_view m = record { key = m.key; document = option_map arc_value m.document }

abbrev pub batch_view : MoveBatch → moves.Batch
batch_view b = record { number = b.number; upto = bound_of b.upto; docs = b.docs }
