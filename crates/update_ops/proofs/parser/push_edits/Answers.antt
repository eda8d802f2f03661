use Rattle.std.proofs.lemmas.Result.{err_from_is_err_and}
use Rattle.field_paths.proofs.FieldLists.{passes_on}
use Rattle.update_ops.specs.View.{operator_of}
use Rattle.update_ops.proofs.Reading.{edits_fail, edits_go_on, fails_behind}
use Rattle.update_ops.proofs.parser.push_edits.Goals as goal

pub loop-field-preserved : goal.loop-field-preserved
loop-field-preserved c =
    edits_go_on (operator_of c.args.operator) c.loop-field.edits.items _ c.in_ok-edit.edit c.fields-field-items.result.now c.loop-field.field-index c.field-item.result
    _ c.loop-field-test.true c.field-item.is c.in_ok-push.ensures.items c.in_ok-edit.ensures.gives c.loop-field.invariant

pub returns-in_err-edit : goal.returns-in_err-edit
returns-in_err-edit c =
    let p = err_from_is_err_and c.from_residual.result c.from_residual.ensures.1 in
    record {
      ok = rw p.1 tt;
      err =
          rw (p.1, p.2)
          (passes_on _ _ _
          (λ f h. fails_behind _ _ _ _ f c.loop-field.invariant
          (edits_fail (operator_of c.args.operator) c.fields-field-items.result.now c.loop-field.field-index c.field-item.result f c.loop-field-test.true c.field-item.is h))
          c.in_err-edit.ensures.gives);
    }
