use Rattle.std.proofs.Common.{rules}
use Rattle.opmsg_frames.proofs.sections.ended_fault.Goals as goal

pub returns-in-1 : goal.returns-in-1
returns-in-1 c = search rules
