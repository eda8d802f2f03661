use Rattle.std.proofs.Common.{◌≡◌, take, map}
use Rattle.chunk_table.specs.Meanings.{chunk_view}
use Rattle.chunk_table.proofs.chunk.copy_all.Given as goal

abbrev pub invariant-loop-chunk : goal.invariant-loop-chunk
invariant-loop-chunk l = map chunk_view l.copy.items ≡ map chunk_view (take l.chunk-index l.chunks)
