use Rattle.std.proofs.Common.{ap, map}
use Rattle.std.specs.Arc.{arc_value}
use Rattle.std.proofs.lemmas.Result.{err_from_is_err_and}
use Rattle.group_accum.proofs.Steps.{none_mapped}
use Rattle.pipeline_lang.specs.View.{stage_of}
use Rattle.pipeline_eval.proofs.Evaluated.{all_ran, documents_in, next_stage, stopped}
use Rattle.pipeline_eval.proofs.runs.run_stages.Goals as goal

pub stages-init : goal.stages-init
stages-init c = λ out run. run

pub stages-preserved : goal.stages-preserved
stages-preserved c = λ out run.
    next_stage (map stage_of c.stages.behind.now) (map stage_of c.in-Some.rest.now) (stage_of c.in-Some.stage.now) c.limit_in_front-limit.result
    (map arc_value c.stages.left.items) (map arc_value c.in_ok-left.left.items) out _ (ap (λ ss. map stage_of ss) c.in-Some.ensures.cases.0)
    c.limit_in_front-limit.ensures c.in_ok-left.ensures.does (c.stages.invariant out) run

pub returns-in_err-left : goal.returns-in_err-left
returns-in_err-left c =
    let p = err_from_is_err_and c.from_residual.result c.from_residual.ensures.1 in
    record {
      runs =
          rw (p.1, p.2)
          (stopped c.limit_in_front-limit.result documents_in documents_in c.in_err-left.field-0.0 (map stage_of c.stages.behind.now)
          (map stage_of c.in-Some.rest.now) (stage_of c.in-Some.stage.now) (map arc_value c.stages.left.items) (map stage_of c.args.stages.now)
          (map arc_value c.args.documents.items) (ap (λ ss. map stage_of ss) c.in-Some.ensures.cases.0) c.stages.invariant c.in_err-left.ensures.does);
    }

pub returns : goal.returns
returns c = record {
  runs =
      all_ran (map stage_of c.stages.behind.now) (map arc_value c.stages.left.items) _ _ (none_mapped stage_of c.stages.behind.now c.in_default.ensures.cases)
      c.stages.invariant;
}
