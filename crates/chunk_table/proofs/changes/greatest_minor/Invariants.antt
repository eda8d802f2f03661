use Rattle.std.proofs.Common.{◌≡◌, ◌<◌, ◌^◌, drop, map}
use Rattle.chunk_model.specs.Changes.{greatest_minor}
use Rattle.chunk_table.specs.Meanings.{chunk_view}
use Rattle.chunk_table.proofs.changes.greatest_minor.Given as goal

abbrev pub invariant-loop-chunk : goal.invariant-loop-chunk
invariant-loop-chunk l =
    (l.greatest < 2 ^ 64) × (greatest_minor l.greatest l.major (map chunk_view (drop l.chunk-index l.chunks)) ≡ greatest_minor 0 l.major
    (map chunk_view l.chunks))
