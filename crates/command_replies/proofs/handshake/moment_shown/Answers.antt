use Rattle.std.proofs.Common.{rules}
use Rattle.command_replies.proofs.handshake.moment_shown.Goals as goal

pub returns-then-moment : goal.returns-then-moment
returns-then-moment c = search rules
