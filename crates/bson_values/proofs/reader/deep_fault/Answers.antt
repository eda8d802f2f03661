use Rattle.std.proofs.Common.{rules}
use Rattle.bson_values.specs.Readers.{deep_at, deep_unless}
use Rattle.bson_values.proofs.reader.deep_fault.Goals as goal

pub returns-in-Err-BadLength : goal.returns-in-Err-BadLength
unfolding deep_at deep_unless
returns-in-Err-BadLength c = search rules
