use Rattle.std.proofs.Common.{take, length, ◌≡◌}
use Rattle.shard_records.specs.Batches.{moved_view}
use Rattle.record_model.specs.MoveFormat.{IsSoundMoved, spelled_moved}
use Rattle.shard_records.proofs.Lists.{PutSoFar}
use Rattle.shard_records.proofs.move_writer.put_each_moved.Given as goal

abbrev pub invariant-loop-moved : goal.invariant-loop-moved
invariant-loop-moved l = PutSoFar spelled_moved IsSoundMoved moved_view l.docs l.moved-index l.fn.out.items l.out.items
