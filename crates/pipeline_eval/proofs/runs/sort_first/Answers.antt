use Rattle.pipeline_eval.proofs.Evaluated.{first_was_sorted}
use Rattle.pipeline_eval.proofs.runs.sort_first.Goals as goal

pub returns : goal.returns
returns c = record { does = first_was_sorted _ _ _ _ c.in_ok-left.ensures }
