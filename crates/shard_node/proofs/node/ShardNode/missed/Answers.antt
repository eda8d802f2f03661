use Rattle.protocol_model.proofs.Lacks.{are_missed}
use Rattle.shard_node.specs.State.{state_of}
use Rattle.shard_node.proofs.node.ShardNode.missed.Goals as goal

pub returns-clause-told : goal.returns-clause-told
returns-clause-told c = λ i is. are_missed (state_of c.args.self.now) i c.args.steps c.args.asked c.missed.result is c.missed.ensures.told
