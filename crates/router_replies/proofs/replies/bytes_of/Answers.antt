use Rattle.std.proofs.Common.{rules}
use Rattle.router_replies.proofs.replies.bytes_of.Goals as goal

pub returns : goal.returns
returns c = search rules
