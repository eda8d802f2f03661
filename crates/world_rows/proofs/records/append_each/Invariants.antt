use Rattle.std.proofs.Common.{IsTrue}
use Rattle.world_rows.proofs.records.append_each.Given as goal

abbrev pub invariant-loop-count : goal.invariant-loop-count
invariant-loop-count g l = IsTrue l.journal.is_open
