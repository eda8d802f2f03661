use Rattle.std.proofs.Common.{arith}
use Rattle.std.proofs.lemmas.Grind.{common_steps}
use Rattle.bson_values.specs.Readers.{boolean_at}
use Rattle.bson_values.proofs.reader.read_boolean.Goals as goal

pub returns-in-1-clause-gives : goal.returns-in-1-clause-gives
unfolding boolean_at
returns-in-1-clause-gives c = grind (arith, common_steps)
