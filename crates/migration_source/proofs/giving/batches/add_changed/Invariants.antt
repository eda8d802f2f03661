use Rattle.mvcc_collection.specs.Present.{rows_of}
use Rattle.migration_source.specs.Changed.{changed_among}
use Rattle.migration_source.specs.Filled.{members_in}
use Rattle.migration_source.proofs.Fills.{Adds}
use Rattle.migration_source.proofs.giving.batches.add_changed.Given as goal

-- the changed keys so far were appended
abbrev pub invariant-loop-key : goal.invariant-loop-key
invariant-loop-key l =
    Adds (rows_of l.c) (members_in l.fn.filling) (members_in l.filling) (changed_among l.initial.key-iterator) (changed_among l.key-iterator)
