use Rattle.pipeline_laws.proofs.SomeOutcome.{some_outcome}
use Rattle.pipeline_laws.proofs.laws.each_pipeline_has_an_outcome.Goals as goal

pub returns : goal.returns
returns c = some_outcome
