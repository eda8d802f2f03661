use Rattle.std.proofs.Common.{◌≡◌, take, map}
use Rattle.shard_records.specs.Batches.{moved_view}
use Rattle.shard_records.proofs.batch.copy_all.Given as goal

abbrev pub invariant-loop-moved : goal.invariant-loop-moved
invariant-loop-moved l = map moved_view l.copy.items ≡ map moved_view (take l.moved-index l.docs)
