use Rattle.std.proofs.Common.{◌∙◌, ap}
use Rattle.shard_node.proofs.Planned.{none_told}
use Rattle.shard_node.proofs.node.ShardNode.plan_told.Goals as goal

pub returns-clause-planned : goal.returns-clause-planned
returns-clause-planned c = λ m body timed.
    none_told _ m c.of_time.result c.args.told body c.in-None.is (ap (λ t. t.0) c.of_time.ensures.time ∙ timed) c.of_time.ensures.change c.of_time.ensures.records c.of_time.ensures.mail
