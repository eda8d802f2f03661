use Rattle.std.proofs.Common.{refl}
use Rattle.pipeline_model.specs.Projections.{fields_named, stays}
use Rattle.projection.proofs.Steps.{all_fields, put_field}
use Rattle.projection.proofs.projections.stored_fields.Goals as goal

pub loop-stored-preserved : goal.loop-stored-preserved
loop-stored-preserved c =
    put_field (fields_named (stays c.args.projection.now)) c.loop-stored.left _ _ c.fields-stored-items.result.now c.loop-stored.stored-index c.stored-item.result
    c.loop-stored-test.true c.stored-item.is c.in_ok-push_stored.ensures c.loop-stored.invariant

pub returns : goal.returns
returns c =
    all_fields (fields_named (stays c.args.projection.now)) c.loop-stored.left _ c.fields-stored-items.result.now c.loop-stored.stored-index refl
    c.loop-stored-test.false c.loop-stored.invariant
