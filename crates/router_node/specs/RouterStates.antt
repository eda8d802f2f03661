-- The state of the definitions that a router of the program is in.
use Rattle.node_model.specs.States.{Router, NodeState, router_state}
use Rattle.router_requests.specs.Lists.{opens_of, taken_of}
use Rattle.router_cursors.specs.CursorLists.{blocks_of, cursors_of, gave_of}
use Rattle.router_node.specs.declared.node.RouterNode.{RouterNode}

abbrev pub router_of : RouterNode → Router
router_of n = record {
  me = n.me.0;
  shards = n.shards;
  time = n.time.0;
  life = n.life;
  begun = n.begun;
  moment = n.moment;
  count = taken_of n.requests;
  tables = n.tables.tables;
  requests = opens_of n.me.0 n.life n.requests;
  cursors = cursors_of n.me.0 n.life n.cursors;
  blocks = blocks_of n.cursors;
  gave = gave_of n.cursors;
}

abbrev pub state_of : RouterNode → NodeState
state_of n = router_state (router_of n)
