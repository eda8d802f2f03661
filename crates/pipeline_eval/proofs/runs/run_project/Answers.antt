use Rattle.pipeline_eval.proofs.Evaluated.{was_projected}
use Rattle.pipeline_eval.proofs.runs.run_project.Goals as goal

pub returns : goal.returns
returns c = record { does = was_projected _ _ _ c.in_ok-left.ensures }
