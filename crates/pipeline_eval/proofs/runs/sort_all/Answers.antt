use Rattle.pipeline_eval.proofs.Evaluated.{was_sorted}
use Rattle.pipeline_eval.proofs.runs.sort_all.Goals as goal

pub returns : goal.returns
returns c = record { does = was_sorted _ _ _ c.in_ok-left.ensures.permutes c.in_ok-left.ensures.sorted }
