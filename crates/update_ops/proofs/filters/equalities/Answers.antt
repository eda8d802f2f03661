use Rattle.update_ops.proofs.FilterNames.{equalities_put}
use Rattle.update_ops.proofs.filters.equalities.Goals as goal

pub returns : goal.returns
returns c =
    equalities_put _ c.loop-field.start c.fields-field-items.result.now c.loop-field.field-index c.loop-field.invariant c.loop-field-test.false
