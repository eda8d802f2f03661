use Rattle.std.proofs.Common.{rules}
use Rattle.bson_values.specs.Readers.{scalar_at}
use Rattle.bson_values.proofs.reader.read_timestamp.Goals as goal

pub returns-clause-gives : goal.returns-clause-gives
unfolding scalar_at
returns-clause-gives c = search rules
