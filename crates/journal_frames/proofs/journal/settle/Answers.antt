use Rattle.std.proofs.Common.{arith}
use Rattle.journal_frames.proofs.journal.settle.Goals as goal

pub close_end-requires : goal.close_end-requires
close_end-requires g c = omega (arith, c.requires.within, c.requires.before, c.ranges.len.fits, c.if-len-eq0.false)
