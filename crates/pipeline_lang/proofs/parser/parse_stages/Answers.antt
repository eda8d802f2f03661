use Rattle.std.proofs.lemmas.Result.{err_from_is_err_and}
use Rattle.field_paths.proofs.FieldLists.{passes_on}
use Rattle.pipeline_lang.proofs.StagesRead.{begins, ends, fails_there, goes_on}
use Rattle.pipeline_lang.proofs.parser.parse_stages.Goals as goal

pub loop-value-init : goal.loop-value-init
loop-value-init c = begins _ _ _ c.new-stages.ensures.items c.values-value-items.ensures.values

pub loop-value-preserved : goal.loop-value-preserved
loop-value-preserved c =
    goes_on c.loop-value.stages.items _ c.in_ok-stage.stage c.values-value-items.result.now c.loop-value.value-index
    c.value-item.result _ c.loop-value-test.true c.value-item.is c.in_ok-push.ensures.items c.in_ok-stage.ensures.gives c.loop-value.invariant

pub returns-in_err-stage : goal.returns-in_err-stage
returns-in_err-stage c =
    let p = err_from_is_err_and c.from_residual.result c.from_residual.ensures.1 in
    record {
      gives =
          rw (p.1, p.2)
          (passes_on _ _ _
          (λ f h. fails_there c.loop-value.stages.items c.values-value-items.result.now c.loop-value.value-index c.value-item.result _ f
          c.loop-value-test.true c.value-item.is c.loop-value.invariant h)
          c.in_err-stage.ensures.gives);
    }

pub returns : goal.returns
returns c = record {
  gives = ends c.loop-value.stages.items c.values-value-items.result.now c.loop-value.value-index _ c.loop-value-test.false c.loop-value.invariant;
}
