use Rattle.shard_node.proofs.Serving.{goes_no_more}
use Rattle.shard_node.proofs.node.ShardNode.serve_all.Goals as goal

pub returns-clause-served : goal.returns-clause-served
returns-clause-served c = goes_no_more _ _ _ _ _ _ _ _ _ _ c.loop-statement.invariant.goes
