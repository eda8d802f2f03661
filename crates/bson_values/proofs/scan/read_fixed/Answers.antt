use Rattle.std.proofs.Common.{rules}
use Rattle.bson_values.specs.Readers.{fixed_at}
use Rattle.bson_values.proofs.scan.read_fixed.Goals as goal

pub returns-then-room-count-clause-gives : goal.returns-then-room-count-clause-gives
unfolding fixed_at
returns-then-room-count-clause-gives c = search rules
