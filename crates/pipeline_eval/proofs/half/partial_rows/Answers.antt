use Rattle.pipeline_eval.proofs.Answered.{partials_given}
use Rattle.pipeline_eval.proofs.half.partial_rows.Goals as goal

pub returns : goal.returns
returns c = partials_given _ _ _ _ _ c.in_ok-shared.ensures c.in_ok-groups.ensures.rows c.in_ok-list.ensures.rows
