use Rattle.std.proofs.Common.{sym, ◌∙◌}
use Rattle.command_replies.proofs.Arrays.{nothing_shown}
use Rattle.command_replies.proofs.evidence.add_evidence.Goals as goal

pub returns-in-None : goal.returns-in-None
returns-in-None c = nothing_shown c.args.document.now _ (sym c.in-None.is ∙ c.in_ok-shown.ensures)
