use Rattle.std.proofs.Common.{◌<◌, length, arith}
use Rattle.chunk_table.specs.Meanings.{chunk_view}
use Rattle.chunk_table.specs.Whole.{IsWritableChunk}
use Rattle.record_model.specs.RecordFormat.{IsSoundChunk, spelled_chunk}
use Rattle.shard_records.proofs.Lists.{all_at, goes_on}
use Rattle.shard_records.proofs.tables.put_each_chunk.Goals as goal

pub put_chunk-requires : goal.put_chunk-requires
put_chunk-requires c =
    let within : c.loop-chunk.chunk-index < length c.args.chunks.now = omega arith in
    all_at IsWritableChunk chunk_view c.args.chunks.now c.loop-chunk.chunk-index c.chunk-item.result within c.chunk-item.is c.requires

pub loop-chunk-preserved : goal.loop-chunk-preserved
loop-chunk-preserved c =
    let within : c.loop-chunk.chunk-index < length c.args.chunks.now = omega arith in
    goes_on spelled_chunk IsSoundChunk chunk_view c.args.chunks.now c.loop-chunk.chunk-index c.chunk-item.result c.args.out.now.items c.loop-chunk.out.items c.put_chunk.new.out.items within c.chunk-item.is c.in_ok-put_chunk.ensures.ok c.in_ok-put_chunk.ensures.sound c.put_chunk.ensures.kept c.loop-chunk.invariant
