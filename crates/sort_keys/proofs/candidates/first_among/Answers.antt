use Rattle.pipeline_model.specs.SortKeys.{directed, order_parts}
use Rattle.sort_keys.proofs.Firsts.{with_one_value}
use Rattle.sort_keys.specs.View.{best_seen, direction_of}
use Rattle.sort_keys.proofs.candidates.first_among.Goals as goal

pub loop-value-preserved : goal.loop-value-preserved
loop-value-preserved c =
    with_one_value (directed (direction_of c.args.direction) order_parts) (best_seen c.loop-value.best) _ _ c.args.values.now c.loop-value.value-index
    c.value-item.result c.loop-value-test.true c.value-item.is c.with_value-best.ensures c.loop-value.invariant
