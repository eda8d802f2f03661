use Rattle.field_paths.specs.References.{seen}
use Rattle.field_paths.proofs.Walks.{pushed}
use Rattle.field_paths.proofs.values.+push.Goals as goal

pub push_in_array-loop-value-preserved : goal.push_in_array-loop-value-preserved
push_in_array-loop-value-preserved t c =
    pushed c.args.part.now c.args.others.now (seen c.loop-value.values.items) _ _
    c.values-value-items.result.now c.loop-value.value-index c.value-item.result c.loop-value-test.true c.value-item.is c.in_ok-push_element.ensures c.loop-value.invariant
