use Rattle.std.proofs.Common.{◌≡◌, drop, map}
use Rattle.chunk_model.specs.Tables.{greatest_version}
use Rattle.chunk_table.specs.Meanings.{chunk_view, version_view}
use Rattle.chunk_table.proofs.chunk.greatest_version.Given as goal

abbrev pub invariant-loop-chunk : goal.invariant-loop-chunk
invariant-loop-chunk l =
    greatest_version (version_view l.greatest) (map chunk_view (drop l.chunk-index l.chunks)) ≡ greatest_version (version_view l.fn.so_far) (map chunk_view l.chunks)
