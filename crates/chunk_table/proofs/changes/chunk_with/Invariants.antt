use Rattle.std.proofs.Common.{◌≡◌, drop, map}
use Rattle.chunk_model.specs.Changes.{chunk_with}
use Rattle.chunk_table.specs.Meanings.{chunk_view}
use Rattle.chunk_table.proofs.changes.chunk_with.Given as goal

abbrev pub invariant-loop-chunk : goal.invariant-loop-chunk
invariant-loop-chunk l = chunk_with l.range (map chunk_view (drop l.chunk-index l.chunks)) ≡ chunk_with l.range (map chunk_view l.chunks)
