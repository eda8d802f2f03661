use Rattle.std.proofs.Common.{rules}
use Rattle.cluster_main.proofs.line.told.Goals as goal

pub returns : goal.returns
returns g c = search rules
