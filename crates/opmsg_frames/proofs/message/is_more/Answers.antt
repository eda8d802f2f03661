use Rattle.std.proofs.Common.{rules}
use Rattle.opmsg_frames.proofs.message.is_more.Goals as goal

pub returns : goal.returns
returns c = search rules
