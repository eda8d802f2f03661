use Rattle.std.proofs.Common.{◌∷◌, ◌<◌, length, arith, add-one, ap, sym, ◌∙◌, map, rules}
use Rattle.chunk_model.specs.Tables as tables
use Rattle.chunk_model.specs.Changes.{moved_chunk, with_lowest}
use Rattle.chunk_table.specs.Copies.{left_to_move}
use Rattle.chunk_table.specs.Meanings.{chunk_view, owned_view, version_view}
use Rattle.chunk_table.proofs.Copies.{step, push_writable, left_writable, moved_writable}
use Rattle.chunk_table.proofs.changes.moved_chunks.Goals as goal

pub loop-chunk-preserved : goal.loop-chunk-preserved
loop-chunk-preserved c =
    let within : c.loop-chunk.chunk-index < length c.args.chunks.now = omega arith in
    let left = left_writable c.args.chunks.now c.loop-chunk.chunk-index c.chunk-item.result within c.chunk-item.is c.loop-chunk.invariant.rest in
    record {
      chunks = rw (c.in_ok-push.ensures.items, add-one)
          (step c.args.chunks.now c.loop-chunk.copies.items c.loop-chunk.chunk-index c.chunk-item.result c.raised-copy.result.0
          (moved_chunk c.args.range.now (version_view c.args.moved)
          (owned_view c.args.owned)) c.loop-chunk.is_raised c.raised-copy.result.1 c.args.donor.0 (version_view c.args.lowest)
          (with_lowest c.args.donor.0 (version_view c.args.lowest) (map (moved_chunk c.args.range.now (version_view c.args.moved)
          (owned_view c.args.owned)) (map chunk_view c.args.chunks.now)))
          within c.chunk-item.is c.loop-chunk.invariant.chunks
          (λ rest. ap (λ (d : tables.Chunk). left_to_move c.loop-chunk.is_raised c.args.donor.0 (version_view c.args.lowest) (d ∷ rest))
          (sym c.in_ok-copy.ensures.chunk) ∙ c.raised-copy.ensures.rest rest));
      count = search rules;
      writable = rw c.in_ok-push.ensures.items
          (push_writable c.loop-chunk.copies.items c.raised-copy.result.0 c.loop-chunk.invariant.writable
          (moved_writable c.args.range.now (version_view c.args.moved) (owned_view c.args.owned) (chunk_view c.chunk-item.result)
          (chunk_view c.in_ok-copy.copy) (chunk_view c.raised-copy.result.0)
          c.in_ok-copy.ensures.chunk c.raised-copy.ensures.same.0 c.raised-copy.ensures.same.1 (c.in_ok-copy.ensures.count left.0.count) left.0));
      rest = rw add-one left.1;
    }
