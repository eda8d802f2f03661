use Rattle.bson_values.specs.View.{datum_of}
use Rattle.bson_values.proofs.CopySteps.{copied_field, copied_fields}
use Rattle.update_ops.proofs.fields.copy_fields.Goals as goal

pub loop-field-preserved : goal.loop-field-preserved
loop-field-preserved c =
    copied_field _ c.loop-field.document c.push.new.self c.args.fields.now c.loop-field.field-index c.field-item.result c.in_ok-name.name
    (datum_of c.in_ok-value.value) c.loop-field.invariant c.loop-field-test.true c.field-item.is c.in_ok-name.ensures c.in_ok-value.ensures c.in_ok-push.ensures.ok

pub returns : goal.returns
returns c = copied_fields _ c.loop-field.document c.args.fields.now c.loop-field.field-index c.loop-field.invariant c.loop-field-test.false
