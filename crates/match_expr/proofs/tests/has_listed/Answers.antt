use Rattle.std.proofs.Common.{sym, ◌∙◌}
use Rattle.match_expr.specs.Looks.{is_listed}
use Rattle.match_expr.proofs.Searches.{others_pass}
use Rattle.match_expr.proofs.tests.has_listed.Goals as goal

pub loop-value-preserved : goal.loop-value-preserved
loop-value-preserved c =
    others_pass (is_listed c.args.operands.now) c.values-value-items.result.now c.loop-value.value-index c.value-item.result _ c.loop-value-test.true c.value-item.is
    (sym c.contains.ensures ∙ c.if-contains.false) c.loop-value.invariant
