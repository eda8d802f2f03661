use Rattle.std.proofs.Common.{length}
use Rattle.journal_frames.proofs.Scanned.{IsScanned}
use Rattle.journal_frames.proofs.records.scan.Given as goal

abbrev pub invariant-loop-records : goal.invariant-loop-records
invariant-loop-records l = IsScanned l.file l.records l.rest

abbrev pub decreases-loop-records : goal.decreases-loop-records
decreases-loop-records l = length l.rest
