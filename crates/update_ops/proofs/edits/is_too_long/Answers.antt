use Rattle.std.proofs.Common.{arith}
use Rattle.update_ops.proofs.Limits.{past_capped}
use Rattle.update_ops.proofs.edits.is_too_long.Goals as goal

pub returns : goal.returns
returns c = grind (arith, past_capped)
