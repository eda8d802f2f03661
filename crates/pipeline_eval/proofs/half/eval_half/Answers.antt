use Rattle.std.proofs.Common.{map}
use Rattle.std.specs.Arc.{arc_value}
use Rattle.std.proofs.lemmas.Result.{err_from_is_err_and}
use Rattle.pipeline_lang.specs.Halves.{half_of}
use Rattle.pipeline_lang.specs.View.{stage_of}
use Rattle.pipeline_eval.specs.Rows.{rows_of}
use Rattle.pipeline_eval.proofs.Answered.{half_answered, half_stopped, half_too_much}
use Rattle.pipeline_eval.proofs.Evaluated.{documents_in}
use Rattle.pipeline_eval.proofs.half.eval_half.Goals as goal

pub returns-in_err-left : goal.returns-in_err-left
returns-in_err-left c =
    let p = err_from_is_err_and c.from_residual.result c.from_residual.ensures.1 in
    record {
      answers =
          rw (p.1, p.2)
          (half_stopped (half_of c.args.half.now) (map arc_value c.args.documents.items) (map stage_of c.stages.result.now) c.stages.ensures
          documents_in rows_of c.in_err-left.field-0.0 c.in_err-left.ensures.runs);
    }

pub returns-in-Some : goal.returns-in-Some
returns-in-Some c = record {
  answers =
      half_too_much (half_of c.args.half.now) (map arc_value c.args.documents.items) (map stage_of c.stages.result.now)
      c.stages.ensures (map arc_value c.in_ok-left.left.items) (rows_of c.in_ok-rows.rows) c.in-Some.bytes c.in_ok-left.ensures.runs
      c.in_ok-rows.ensures c.in-Some.ensures;
}

pub returns-in-None : goal.returns-in-None
returns-in-None c = record {
  answers =
      half_answered (half_of c.args.half.now) (map arc_value c.args.documents.items) (map stage_of c.stages.result.now)
      c.stages.ensures (map arc_value c.in_ok-left.left.items) (rows_of c.in_ok-rows.rows) c.in_ok-left.ensures.runs
      c.in_ok-rows.ensures c.in-None.ensures;
}
