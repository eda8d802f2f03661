use Rattle.std.proofs.Common.{rules}
use Rattle.command_replies.proofs.evidence.evidence_document.Goals as goal

pub returns-in-Greatest : goal.returns-in-Greatest
returns-in-Greatest c = search rules
