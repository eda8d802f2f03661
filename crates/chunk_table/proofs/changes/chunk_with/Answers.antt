use Rattle.std.proofs.Common.{◌<◌, length, sym, ◌∙◌, arith}
use Rattle.chunk_table.proofs.Chunks.{range_here}
use Rattle.chunk_table.proofs.changes.chunk_with.Goals as goal

pub returns-then-is_same_range : goal.returns-then-is_same_range
returns-then-is_same_range c =
    let within : c.loop-chunk.chunk-index < length c.args.chunks.now = omega arith in
    sym (range_here c.args.range.now c.args.chunks.now c.loop-chunk.chunk-index c.chunk-item.result within c.chunk-item.is
    (sym c.is_same_range.ensures ∙ c.if-is_same_range.true))
    ∙ c.loop-chunk.invariant
