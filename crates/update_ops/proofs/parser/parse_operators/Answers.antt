use Rattle.std.proofs.lemmas.Result.{err_from_is_err_and}
use Rattle.field_paths.proofs.FieldLists.{passes_on}
use Rattle.update_ops.specs.View.{edits_of}
use Rattle.update_ops.proofs.Reading.{operators_fail, operators_go_on}
use Rattle.update_ops.proofs.parser.parse_operators.Goals as goal

pub loop-field-preserved : goal.loop-field-preserved
loop-field-preserved c =
    operators_go_on (edits_of c.loop-field.edits.items) _ c.fields-field-items.result.now c.loop-field.field-index c.field-item.result _ c.loop-field-test.true
    c.field-item.is c.in_ok-push_operator.ensures.ok c.loop-field.invariant

pub returns-in_err-push_operator : goal.returns-in_err-push_operator
returns-in_err-push_operator c =
    let p = err_from_is_err_and c.from_residual.result c.from_residual.ensures.1 in
    record {
      gives =
          rw (p.1, p.2)
          (passes_on _ _ _
          (λ f h. operators_fail (edits_of c.loop-field.edits.items) c.fields-field-items.result.now c.loop-field.field-index c.field-item.result _ f
          c.loop-field-test.true c.field-item.is c.loop-field.invariant h)
          c.in_err-push_operator.ensures.err);
    }
