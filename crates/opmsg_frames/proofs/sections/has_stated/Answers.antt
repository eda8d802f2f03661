use Rattle.std.proofs.Common.{rules}
use Rattle.opmsg_frames.proofs.sections.has_stated.Goals as goal

pub returns-then-stated-ge-LEAST : goal.returns-then-stated-ge-LEAST
returns-then-stated-ge-LEAST c = search rules
