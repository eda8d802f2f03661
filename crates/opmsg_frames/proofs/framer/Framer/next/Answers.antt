use Rattle.std.proofs.Common.{rules}
use Rattle.opmsg_frames.proofs.framer.Framer.next.Goals as goal

pub returns-in-Faulty : goal.returns-in-Faulty
returns-in-Faulty c = search rules
