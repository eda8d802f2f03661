use Rattle.std.proofs.Common.{◌≡◌, drop, map}
use Rattle.chunk_model.specs.Changes.{can_split}
use Rattle.chunk_table.specs.Meanings.{chunk_view}
use Rattle.chunk_table.proofs.changes.can_split.Given as goal

abbrev pub invariant-loop-chunk : goal.invariant-loop-chunk
invariant-loop-chunk l = can_split l.key (map chunk_view (drop l.chunk-index l.chunks)) ≡ can_split l.key (map chunk_view l.chunks)
