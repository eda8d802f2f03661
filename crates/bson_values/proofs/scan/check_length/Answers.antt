use Rattle.std.proofs.Common.{rules}
use Rattle.bson_values.specs.Readers.{length_within}
use Rattle.bson_values.proofs.scan.check_length.Goals as goal

pub returns-clause-gives : goal.returns-clause-gives
unfolding length_within
returns-clause-gives c = search rules
