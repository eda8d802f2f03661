-- A request that arrives, and has work to do.
use Rattle.std.specs.Prelude.{◌≡◌, ℕ, ℤ, ◌+◌, List}
use Rattle.command_model.specs.Command.{command_of}
use Rattle.node_model.specs.RouterRequests.{id_of, needs, plan_of}
use Rattle.node_model.specs.RouterNext.{Next, begins_work}
use Rattle.node_model.specs.RouterRows.{opened_request}
use Rattle.node_model.specs.States.{Router, Work}
use Rattle.opmsg_model.specs.Requests.{Request}
use Rattle.router_node.specs.Rows.{started}

-- it needs this work, and this becomes of it
pub record Begins (r : Router) (link : ℕ) (number : ℤ) (request : Request) (namespace : List ℕ) (work : Work) (next : Next) : Type 0 where
  pub plan : plan_of (started r) (id_of r (r.count + 1)) request.more (command_of request) ≡ needs namespace work
  pub begins : begins_work (started r) r.time (opened_request (started r) link number request namespace work) work ≡ next
