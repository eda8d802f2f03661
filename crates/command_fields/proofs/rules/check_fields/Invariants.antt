use Rattle.std.proofs.Common.{◌≡◌}
use Rattle.command_fields.proofs.Rulings.{rest_verdict}
use Rattle.command_fields.proofs.rules.check_fields.Given as goal

abbrev pub invariant-loop-i : goal.invariant-loop-i
invariant-loop-i g l = rest_verdict (g.R.Rules.unlisted_verdict l.rules) (g.R.Rules.rules l.rules) l.fields l.i ≡ rest_verdict (g.R.Rules.unlisted_verdict l.rules) (g.R.Rules.rules l.rules) l.fields l.from
