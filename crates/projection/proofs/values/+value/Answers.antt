use Rattle.std.proofs.Common.{◌∷◌, refl}
use Rattle.projection.specs.View.{values_in}
use Rattle.projection.proofs.Steps.{all_values, put_value}
use Rattle.projection.proofs.values.+value.Goals as goal

pub values_in_array-loop-value-preserved : goal.values_in_array-loop-value-preserved
values_in_array-loop-value-preserved t c =
    put_value (values_in (c.args.part.now ∷ c.args.others.now)) c.loop-value.found _ _ c.values-value-items.result.now c.loop-value.value-index
    c.value-item.result c.loop-value-test.true c.value-item.is c.in_ok-push_element.ensures c.loop-value.invariant

pub values_in_array-returns : goal.values_in_array-returns
values_in_array-returns t c =
    all_values (values_in (c.args.part.now ∷ c.args.others.now)) c.loop-value.found _ c.values-value-items.result.now c.loop-value.value-index refl
    c.loop-value-test.false c.loop-value.invariant
