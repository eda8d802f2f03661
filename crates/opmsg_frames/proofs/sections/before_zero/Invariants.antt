use Rattle.std.proofs.Common.{◌≡◌, take, drop}
use Rattle.bson_model.specs.Faults.{before_zero}
use Rattle.opmsg_frames.proofs.Names.{after}
use Rattle.opmsg_frames.proofs.sections.before_zero.Given as goal

abbrev pub invariant-loop-i : goal.invariant-loop-i
invariant-loop-i l = after (take l.i l.bytes) (before_zero (drop l.i l.bytes)) ≡ before_zero l.bytes
