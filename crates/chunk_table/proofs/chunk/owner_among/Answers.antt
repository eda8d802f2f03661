use Rattle.std.proofs.lemmas.Grind.{common_steps}
use Rattle.std.proofs.Common.{arith}
use Rattle.chunk_table.proofs.chunk.owner_among.Goals as goal

-- src/chunk.rt:105:5
pub loop-owned-preserved : goal.loop-owned-preserved
loop-owned-preserved c = grind (arith, common_steps)
