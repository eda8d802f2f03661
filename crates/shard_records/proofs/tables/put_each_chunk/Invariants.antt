use Rattle.std.proofs.Common.{take, length, ◌≡◌}
use Rattle.chunk_table.specs.Meanings.{chunk_view}
use Rattle.record_model.specs.RecordFormat.{IsSoundChunk, spelled_chunk}
use Rattle.shard_records.proofs.Lists.{PutSoFar}
use Rattle.shard_records.proofs.tables.put_each_chunk.Given as goal

abbrev pub invariant-loop-chunk : goal.invariant-loop-chunk
invariant-loop-chunk l = PutSoFar spelled_chunk IsSoundChunk chunk_view l.chunks l.chunk-index l.fn.out.items l.out.items
