use Rattle.cluster_main.proofs.FewNodes.{few_or_none}
use Rattle.cluster_main.proofs.locks.journal_count.Goals as goal

pub returns-in-Ok-clause-few : goal.returns-in-Ok-clause-few
returns-in-Ok-clause-few c = rw c.unwrap_or.ensures (few_or_none c.node_count.result c.node_count.ensures.few)
