use Rattle.std.proofs.Common.{map, take}
use Rattle.shard_records.specs.Batches.{moved_view}
use Rattle.migration_recipient.specs.Applied.{HasRoom, IsSame}
use Rattle.migration_recipient.proofs.apply.reserve_all.Given as goal

-- the keys so far have room
abbrev pub invariant-loop-moved : goal.invariant-loop-moved
invariant-loop-moved l = record {
  room : HasRoom l.c (map moved_view (take l.moved-index l.docs));
  same : IsSame l.fn.c l.c;
}
