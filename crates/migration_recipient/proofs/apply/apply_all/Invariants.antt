use Rattle.std.proofs.Common.{map, vec_len}
use Rattle.shard_records.specs.Batches.{moved_view}
use Rattle.migration_recipient.proofs.Steps.{Applies}
use Rattle.migration_recipient.proofs.apply.apply_all.Given as goal

-- the members that were taken are applied
abbrev pub invariant-loop-moved : goal.invariant-loop-moved
invariant-loop-moved l = Applies l.fn.c l.c (map moved_view l.fn.docs.items) (map moved_view l.docs.items) l.time.0

abbrev pub decreases-loop-moved : goal.decreases-loop-moved
decreases-loop-moved l = vec_len l.docs
