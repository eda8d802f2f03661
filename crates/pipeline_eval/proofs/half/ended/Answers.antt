use Rattle.std.proofs.Common.{arith}
use Rattle.std.specs.Arc.{arc_value}
use Rattle.std.proofs.lemmas.List.{length-map}
use Rattle.pipeline_model.specs.Halves.{in_documents}
use Rattle.pipeline_eval.specs.Rows.{rows_of}
use Rattle.pipeline_eval.proofs.Answered.{count_given, if_ok}
use Rattle.pipeline_eval.proofs.half.ended.Goals as goal

pub returns-in-Docs : goal.returns-in-Docs
returns-in-Docs c = rw c.in-Docs.is (in_documents _)

pub returns-in-Counted : goal.returns-in-Counted
returns-in-Counted c =
    rw c.in-Counted.is
    (if_ok c.counted_rows.result _ _
    (λ rows are. count_given _ c.len.result (rows_of rows) (omega (arith, length-map c.args.left.items arc_value, c.len.ensures)) are) c.counted_rows.ensures)
