use Rattle.std.proofs.Common.{sym}
use Rattle.node_traits.specs.Ids.{id_view}
use Rattle.router_node.specs.RouterStates.{router_of}
use Rattle.router_node.proofs.Heard.{heard_late}
use Rattle.router_node.proofs.Refused.{refused_of_none}
use Rattle.router_node.proofs.node.RouterNode.plan_request_refused.Goals as goal

pub returns-in-None : goal.returns-in-None
returns-in-None c = λ m from is late.
    let r = router_of c.args.self.now in
    heard_late r m c.late.result c.args.time.0 late c.late.ensures
    (refused_of_none r m (id_view c.args.id) c.args.turn c.args.first _ is (sym c.in-None.ensures))
