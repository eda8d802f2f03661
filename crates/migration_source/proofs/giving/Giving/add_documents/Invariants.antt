use Rattle.std.proofs.Common.{ℕ, length}
use Rattle.std.specs.Option.{option_map}
use Rattle.mvcc_collection.specs.Present.{rows_after, rows_of}
use Rattle.migration_source.specs.Filled.{members_in}
use Rattle.migration_source.specs.Givings.{source_of}
use Rattle.migration_source.proofs.Nexts.{Reaches}
use Rattle.migration_source.proofs.giving.Giving.add_documents.Given as goal

-- the documents up to the key were appended
abbrev pub invariant-loop-key : goal.invariant-loop-key
invariant-loop-key l =
    Reaches (source_of l.self) (rows_of l.c) (option_map (λ k. k.now) l.initial.after) (option_map (λ k. k.now) l.after) (members_in l.filling)

abbrev pub decreases-loop-key : goal.decreases-loop-key
decreases-loop-key l = length (rows_after l.self.range (option_map (λ k. k.now) l.after) (rows_of l.c))
