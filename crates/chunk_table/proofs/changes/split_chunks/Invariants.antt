use Rattle.std.proofs.Common.{◌≡◌, ◌++◌, drop, map}
use Rattle.chunk_model.specs.Changes.{split_chunks}
use Rattle.chunk_table.specs.Meanings.{chunk_view}
use Rattle.chunk_table.proofs.changes.split_chunks.Given as goal

abbrev pub invariant-loop-chunk : goal.invariant-loop-chunk
invariant-loop-chunk l =
    map chunk_view l.split.items ++ split_chunks l.middle (map chunk_view l.chunks) (map chunk_view (drop l.chunk-index l.chunks))
    ≡ split_chunks l.middle (map chunk_view l.chunks) (map chunk_view l.chunks)
