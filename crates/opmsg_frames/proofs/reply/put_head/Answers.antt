use Rattle.std.proofs.Common.{rules}
use Rattle.opmsg_frames.proofs.reply.put_head.Goals as goal

pub returns-in-Msg-clause-ok : goal.returns-in-Msg-clause-ok
returns-in-Msg-clause-ok c = search rules
