use Rattle.std.proofs.Common.{◌≡◌, ◌++◌, drop, map, length}
use Rattle.std.specs.List.{AllByRecursion}
use Rattle.chunk_model.specs.Changes.{moved_chunk, with_lowest}
use Rattle.chunk_table.specs.Meanings.{chunk_view, owned_view, version_view}
use Rattle.chunk_table.specs.Whole.{IsWritableChunk}
use Rattle.chunk_table.specs.Copies.{left_to_move}
use Rattle.chunk_table.proofs.changes.moved_chunks.Given as goal

abbrev pub invariant-loop-chunk : goal.invariant-loop-chunk
invariant-loop-chunk l = record {
  chunks :
      map chunk_view l.copies.items ++ left_to_move l.is_raised l.donor.0 (version_view l.lowest) (map (moved_chunk l.range (version_view l.moved)
      (owned_view l.owned)) (map chunk_view (drop l.chunk-index l.chunks)))
      ≡ with_lowest l.donor.0 (version_view l.lowest) (map (moved_chunk l.range (version_view l.moved) (owned_view l.owned)) (map chunk_view l.chunks));
  count : length l.copies.items ≡ l.chunk-index;
  writable : AllByRecursion IsWritableChunk (map chunk_view l.copies.items);
  rest : AllByRecursion IsWritableChunk (map chunk_view (drop l.chunk-index l.chunks));
}
