-- The members of a batch while it is filled.
use Rattle.std.specs.Prelude.{List, map}
use Rattle.record_model.specs.Moves.{MovedDocument}
use Rattle.shard_records.specs.Batches.{moved_view}
use Rattle.migration_source.specs.declared.filling.Filling.{Filling}

abbrev pub members_in : Filling → List MovedDocument
members_in f = map moved_view f.docs.items
