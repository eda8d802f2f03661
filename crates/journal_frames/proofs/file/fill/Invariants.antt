use Rattle.std.proofs.Common.{length, ◌-◌}
use Rattle.journal_frames.proofs.Loads.{IsReading}
use Rattle.journal_frames.proofs.file.fill.Given as goal

abbrev pub invariant-loop-at : goal.invariant-loop-at
invariant-loop-at g l = IsReading g.D.Disk.tells g.D.Disk.content g.D.Disk.may_leave g.D.Disk.moment g.D.Disk.left_at g.D.Disk.fault_count g.D.Disk.place l.fn.disk l.disk (length l.fn.buf) l.buf l.at

abbrev pub decreases-loop-at : goal.decreases-loop-at
decreases-loop-at g l = length l.initial.buf - l.at
