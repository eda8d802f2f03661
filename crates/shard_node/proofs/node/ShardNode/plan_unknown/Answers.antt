use Rattle.std.proofs.Common.{refl, subst}
use Rattle.std.specs.Prelude.{IfSome}
use Rattle.node_traits.specs.Letters.{letter_input}
use Rattle.protocol_model.specs.Messages.{letter_of}
use Rattle.shard_node.specs.Plans.{IsPlanned}
use Rattle.shard_node.specs.State.{shard_view}
use Rattle.shard_node.proofs.node.ShardNode.plan_unknown.Goals as goal

pub returns-in-Some-clause-planned : goal.returns-in-Some-clause-planned
returns-in-Some-clause-planned c =
    subst (λ o. IfSome o (λ p. IsPlanned (shard_view c.args.self.now) (letter_input (letter_of c.args.message)) p)) c.in-Some.is
    (c.in_ok-plan.ensures.planned (letter_of c.args.message) refl c.requires.time)
