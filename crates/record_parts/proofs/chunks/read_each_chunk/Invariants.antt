use Rattle.std.proofs.Common.{map}
use Rattle.std.specs.List.{AllByRecursion}
use Rattle.shard_records.specs.Readable.{IsHeldChunk}
use Rattle.chunk_table.specs.Meanings.{chunk_view}
use Rattle.record_parts.specs.Readers.{chunk_at}
use Rattle.record_parts.proofs.Items.{ReadSoFar}
use Rattle.record_parts.proofs.chunks.read_each_chunk.Given as goal

abbrev pub invariant-loop : goal.invariant-loop
invariant-loop l = record {
  so_far : ReadSoFar chunk_at l.count l.counter (map chunk_view l.chunks.items) l.left l.bytes;
  held : AllByRecursion IsHeldChunk (map chunk_view l.chunks.items);
}
