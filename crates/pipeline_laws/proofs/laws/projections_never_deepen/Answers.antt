use Rattle.pipeline_model.proofs.Depths.{project_within}
use Rattle.pipeline_laws.proofs.laws.projections_never_deepen.Goals as goal

pub returns : goal.returns
returns c = project_within
