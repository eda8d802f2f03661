use Rattle.std.proofs.Common.{map}
use Rattle.std.specs.Arc.{arc_value}
use Rattle.std.proofs.lemmas.Result.{err_from_is_err_and}
use Rattle.pipeline_lang.specs.View.{stage_of}
use Rattle.pipeline_eval.proofs.Answered.{answered, stopped_too, was_too_much}
use Rattle.pipeline_eval.proofs.Evaluated.{documents_in}
use Rattle.pipeline_eval.proofs.answers.eval.Goals as goal

pub returns-in_err-shown : goal.returns-in_err-shown
returns-in_err-shown c =
    let p = err_from_is_err_and c.from_residual.result c.from_residual.ensures.1 in
    record {
      answers =
          rw (p.1, p.2)
          (stopped_too c.args.pipeline.now (map stage_of c.stages.result.now) (map arc_value c.args.documents.items) c.stages.ensures
          documents_in documents_in c.in_err-shown.field-0.0 c.in_err-shown.ensures.runs);
    }

pub returns-in-Some : goal.returns-in-Some
returns-in-Some c = record {
  answers =
      was_too_much c.args.pipeline.now (map stage_of c.stages.result.now) (map arc_value c.args.documents.items) c.stages.ensures
      (map arc_value c.in_ok-shown.shown.items) c.in-Some.bytes c.in_ok-shown.ensures.runs (rw c.deref.ensures.value at c.in-Some.ensures);
}

pub returns-in-None : goal.returns-in-None
returns-in-None c = record {
  answers =
      answered c.args.pipeline.now (map stage_of c.stages.result.now) (map arc_value c.args.documents.items) c.stages.ensures
      (map arc_value c.in_ok-shown.shown.items) c.in_ok-shown.ensures.runs (rw c.deref.ensures.value at c.in-None.ensures);
}
