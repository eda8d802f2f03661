use Rattle.std.proofs.lemmas.Result.{err_from_is_err_and}
use Rattle.update_ops.proofs.Turns.{edit_fails, edit_goes_on, passes_on}
use Rattle.update_ops.proofs.edits.edited_by.Goals as goal

pub loop-edit-preserved : goal.loop-edit-preserved
loop-edit-preserved c =
    edit_goes_on c.args.edits.now c.loop-edit.edit-index c.edit-item.result c.loop-edit.after _ _ c.loop-edit-test.true c.edit-item.is c.in_ok-after-2.ensures.gives
    c.loop-edit.invariant

pub returns-in_err-after-2 : goal.returns-in_err-after-2
returns-in_err-after-2 c =
    let p = err_from_is_err_and c.from_residual-in_err-after-2.result c.from_residual-in_err-after-2.ensures.1 in
    record {
      gives =
          rw (p.1, p.2)
          (passes_on _ _ _
          (λ f h. edit_fails c.args.edits.now c.loop-edit.edit-index c.edit-item.result c.loop-edit.after _ f c.loop-edit-test.true c.edit-item.is c.loop-edit.invariant h)
          c.in_err-after-2.ensures.gives);
    }
