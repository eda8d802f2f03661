use Rattle.std.proofs.Common.{◌≡◌, drop, map}
use Rattle.bson_values.specs.View.{datum_of}
use Rattle.chunk_model.specs.Tables.{chunk_of}
use Rattle.chunk_table.specs.Meanings.{chunk_view}
use Rattle.chunk_table.proofs.chunk.chunk_of.Given as goal

abbrev pub invariant-loop-chunk : goal.invariant-loop-chunk
invariant-loop-chunk l = chunk_of (datum_of l.value) (map chunk_view (drop l.chunk-index l.chunks)) ≡ chunk_of (datum_of l.value) (map chunk_view l.chunks)
