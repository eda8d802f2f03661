use Rattle.std.proofs.Common.{rules}
use Rattle.opmsg_frames.proofs.outline.msg_fault.Goals as goal

pub returns-then-low-ne2 : goal.returns-then-low-ne2
returns-then-low-ne2 c = search rules

pub returns : goal.returns
returns c = search rules
