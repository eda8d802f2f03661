use Rattle.query_model.specs.Reading.{read_query}
use Rattle.query_model.proofs.Levels.{shallow_says, shallow_within}
use Rattle.query_model.proofs.laws.never_too_deep.Goals as goal

pub returns : goal.returns
returns c = λ document kept. shallow_says (read_query document) (shallow_within 100 document kept)
