use Rattle.std.proofs.Common.{◌≡◌, [], drop, map}
use Rattle.value_compare.specs.Spans.{span_of}
use Rattle.chunk_model.specs.Targets.{targets_among}
use Rattle.chunk_table.specs.Meanings.{chunk_view}
use Rattle.chunk_table.specs.Shards.{shard_number}
use Rattle.chunk_table.proofs.span_targets.targets_among.Given as goal

abbrev pub invariant-loop-chunk : goal.invariant-loop-chunk
invariant-loop-chunk l =
    targets_among (map span_of l.spans) l.time.0 (map shard_number l.found.items) (map chunk_view (drop l.chunk-index l.chunks))
    ≡ targets_among (map span_of l.spans) l.time.0 [] (map chunk_view l.chunks)
