use Rattle.std.proofs.Common.{rules}
use Rattle.opmsg_frames.proofs.request.Request.bytes.Goals as goal

pub returns : goal.returns
returns c = search rules
