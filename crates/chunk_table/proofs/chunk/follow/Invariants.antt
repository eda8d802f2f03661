use Rattle.std.proofs.Common.{◌≡◌, drop, map}
use Rattle.std.specs.List.{AllByRecursion}
use Rattle.value_compare.specs.Bounds.{bound_of}
use Rattle.value_model.specs.Keys.{min_bound}
use Rattle.chunk_table.specs.Meanings.{chunk_view}
use Rattle.chunk_table.specs.Whole.{HasRange, follow_from}
use Rattle.chunk_table.proofs.chunk.follow.Given as goal

abbrev pub invariant-loop-chunk : goal.invariant-loop-chunk
invariant-loop-chunk l = record {
  follow : follow_from (bound_of l.start) (map chunk_view (drop l.chunk-index l.chunks)) ≡ follow_from min_bound (map chunk_view l.chunks);
  ranges : AllByRecursion HasRange (map chunk_view (drop l.chunk-index l.chunks)) → AllByRecursion HasRange (map chunk_view l.chunks);
}
