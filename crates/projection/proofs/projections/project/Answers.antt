use Rattle.projection.proofs.Steps.{all_rules, no_deeper}
use Rattle.projection.proofs.projections.project.Goals as goal

pub returns : goal.returns
returns c =
    let is = all_rules c.args.document.now c.loop-rule.left _ c.deref-rule-items.result.now c.loop-rule.rule-index c.loop-rule-test.false c.loop-rule.invariant in
    record { document = is; depth = no_deeper c.loop-rule.left c.args.projection.now c.args.document.now is }
