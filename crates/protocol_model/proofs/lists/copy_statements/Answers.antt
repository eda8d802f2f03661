use Rattle.std.proofs.Common.{◌≡◌, arith}
use Rattle.std.proofs.lemmas.Grind.{common_steps}
use Rattle.protocol_model.proofs.lists.copy_statements.Goals as goal

pub loop-statement-preserved : goal.loop-statement-preserved
loop-statement-preserved c = λ given id. grind (arith, common_steps, c.loop-statement.invariant given id, c.in_ok-copy.ensures given id)
