use Rattle.std.proofs.Common.{sym, subst, rules}
use Rattle.node_model.specs.States as states
use Rattle.router_node.specs.StepPlans.{Follows}
use Rattle.router_node.proofs.node.RouterNode.plan.Goals as goal

pub returns-clause-planned : goal.returns-clause-planned
returns-clause-planned c = c.in_ok-plan.ensures.step

pub returns-clause-ready : goal.returns-clause-ready
returns-clause-ready c = record {
  follows = subst (λ (r : states.Router). Follows r c.in_ok-plan.plan) (sym c.make_room.ensures.same) c.in_ok-plan.ensures.follows;
  room = (search rules);
}
