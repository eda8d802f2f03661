use Rattle.bson_values.specs.View.{datum_of}
use Rattle.bson_values.proofs.CopySteps.{copied_field, copied_fields, copied_item, copied_items}
use Rattle.bson_values.proofs.value.+copy.Goals as goal

pub Array::copy-loop-value-preserved : goal.Array::copy-loop-value-preserved
Array::copy-loop-value-preserved t c =
    copied_item c.args.self.now c.loop-value.copy c.push.new.self c.deref-value-items.result.now c.loop-value.value-index c.value-item.result (datum_of c.in_ok-value.value) c.loop-value.invariant c.loop-value-test.true c.value-item.is c.in_ok-value.ensures c.in_ok-push.ensures.ok

pub Array::copy-returns : goal.Array::copy-returns
Array::copy-returns t c =
    copied_items c.args.self.now c.loop-value.copy c.deref-value-items.result.now c.loop-value.value-index c.loop-value.invariant c.loop-value-test.false

pub Document::copy-loop-field-preserved : goal.Document::copy-loop-field-preserved
Document::copy-loop-field-preserved t c =
    copied_field c.args.self.now c.loop-field.copy c.push.new.self c.deref-field-items.result.now c.loop-field.field-index c.field-item.result c.in_ok-field.field.name (datum_of c.in_ok-field.field.value) c.loop-field.invariant c.loop-field-test.true c.field-item.is c.in_ok-field.ensures.0 c.in_ok-field.ensures.1 c.in_ok-push.ensures.ok

pub Document::copy-returns : goal.Document::copy-returns
Document::copy-returns t c =
    copied_fields c.args.self.now c.loop-field.copy c.deref-field-items.result.now c.loop-field.field-index c.loop-field.invariant c.loop-field-test.false
