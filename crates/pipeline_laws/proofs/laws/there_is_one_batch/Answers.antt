use Rattle.pipeline_laws.proofs.OneBatch.{some_batch, one_batch}
use Rattle.pipeline_laws.proofs.laws.there_is_one_batch.Goals as goal

pub returns-clause-some : goal.returns-clause-some
returns-clause-some c = some_batch

pub returns-clause-one : goal.returns-clause-one
returns-clause-one c = one_batch
