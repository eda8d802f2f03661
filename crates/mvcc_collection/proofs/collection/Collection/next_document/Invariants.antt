use Rattle.std.proofs.Common.{◌≡◌}
use Rattle.mvcc_collection.specs.Present.{newest, rows_in}
use Rattle.mvcc_collection.proofs.collection.Collection.next_document.Given as goal

-- no document was found so far
abbrev pub invariant-loop-key : goal.invariant-loop-key
invariant-loop-key l = rows_in l.self.chains.items newest l.key-iterator ≡ rows_in l.self.chains.items newest l.initial.key-iterator
