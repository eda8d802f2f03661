use Rattle.std.proofs.Common.{◌<◌, length, sym, ◌∙◌, arith}
use Rattle.bson_values.specs.View.{datum_of}
use Rattle.chunk_table.proofs.Chunks.{found_here}
use Rattle.chunk_table.proofs.chunk.chunk_of.Goals as goal

pub returns-then-contains_value : goal.returns-then-contains_value
returns-then-contains_value c =
    let within : c.loop-chunk.chunk-index < length c.args.chunks.now = omega arith in
    sym (found_here (datum_of c.args.value.now) c.args.chunks.now c.loop-chunk.chunk-index c.chunk-item.result within c.chunk-item.is (sym c.contains_value.ensures ∙ c.if-contains_value.true))
    ∙ c.loop-chunk.invariant
