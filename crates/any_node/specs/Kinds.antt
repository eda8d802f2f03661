-- The state of the definitions that a node is in, and how many steps it took.
use Rattle.std.specs.Prelude.{ℕ}
use Rattle.node_model.specs.States.{NodeState}
use Rattle.config_node.specs.State as catalogue
use Rattle.shard_node.specs.State as shard
use Rattle.router_node.specs.RouterStates as router
use Rattle.any_node.specs.declared.AnyNode.{AnyNode}
use Rattle.any_node.specs.declared.AnyNode.TheVariants.{Catalogue, Shard, Router}

abbrev pub state_of : AnyNode → NodeState
state_of (Catalogue node) = catalogue.state_of node
state_of (Shard node) = shard.state_of node
state_of (Router node) = router.state_of node

abbrev pub steps_of : AnyNode → ℕ
steps_of (Catalogue node) = node.steps
steps_of (Shard node) = node.steps
steps_of (Router node) = node.steps
