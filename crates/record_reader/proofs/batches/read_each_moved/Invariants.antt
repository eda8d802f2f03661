use Rattle.std.proofs.Common.{map}
use Rattle.std.specs.List.{AllByRecursion}
use Rattle.shard_records.specs.Sizes.{IsWritableMoved}
use Rattle.shard_records.specs.Batches.{moved_view}
use Rattle.record_reader.specs.RecordReaders.{moved_at}
use Rattle.record_parts.proofs.Items.{ReadSoFar}
use Rattle.record_reader.proofs.batches.read_each_moved.Given as goal

abbrev pub invariant-loop : goal.invariant-loop
invariant-loop l = record {
  so_far : ReadSoFar moved_at l.count l.counter (map moved_view l.docs.items) l.left l.bytes;
  held : AllByRecursion IsWritableMoved (map moved_view l.docs.items);
}
