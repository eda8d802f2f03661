use Rattle.std.proofs.Common.{rules}
use Rattle.bson_values.proofs.value.Value.same_scalar.Goals as goal

pub returns-in-Int32-matches : goal.returns-in-Int32-matches
returns-in-Int32-matches c = search rules
