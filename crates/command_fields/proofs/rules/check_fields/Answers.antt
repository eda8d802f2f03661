use Rattle.std.proofs.Common.{sym}
use Rattle.command_fields.proofs.Rulings.{passes, rest_cons, stops}
use Rattle.command_fields.proofs.rules.check_fields.Goals as goal

pub loop-i-preserved : goal.loop-i-preserved
loop-i-preserved g c = passes _ _ _ _ (rest_cons (g.R.Rules.unlisted_verdict c.args.rules.now) (g.R.Rules.rules c.args.rules.now) c.args.fields.now c.loop-i.i c.index-fields-i.result c.loop-i-test.true c.index-fields-i.is) (sym c.in_default.ensures) c.loop-i.invariant

pub returns-in-Some : goal.returns-in-Some
returns-in-Some g c = stops _ _ _ _ _ (rest_cons (g.R.Rules.unlisted_verdict c.args.rules.now) (g.R.Rules.rules c.args.rules.now) c.args.fields.now c.loop-i.i c.index-fields-i.result c.loop-i-test.true c.index-fields-i.is) (sym c.in-Some.ensures) c.loop-i.invariant
