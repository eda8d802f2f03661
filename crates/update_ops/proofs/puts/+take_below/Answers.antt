use Rattle.std.proofs.Common.{rules}
use Rattle.update_ops.proofs.puts.+take_below.Goals as goal

pub returns-in_default-get : goal.returns-in_default-get
returns-in_default-get t c = search rules
