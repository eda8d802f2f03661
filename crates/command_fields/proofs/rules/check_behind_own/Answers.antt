use Rattle.std.proofs.Common.{◌∙◌}
use Rattle.command_fields.proofs.Rulings.{behind_own}
use Rattle.command_fields.proofs.rules.check_behind_own.Goals as goal

pub returns : goal.returns
returns g c = λ own value others e. c.check_fields.ensures ∙ behind_own (g.R.Rules.unlisted_verdict c.args.rules.now) (g.R.Rules.rules c.args.rules.now) c.fields.result.now own value others (c.fields.ensures.fields ∙ e)
