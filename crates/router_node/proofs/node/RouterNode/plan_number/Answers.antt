use Rattle.std.proofs.Common.{map}
use Rattle.std.specs.Arc.{arc_value}
use Rattle.router_requests.specs.Works.{open_view}
use Rattle.router_node.specs.RouterStates.{router_of}
use Rattle.router_node.proofs.Told.{may_number}
use Rattle.router_node.proofs.node.RouterNode.plan_number.Goals as goal

pub returns-in-Some : goal.returns-in-Some
returns-in-Some c = λ m late may.
    let n = c.args.self.now in
    c.plan_answer.ensures m late
    (may_number (router_of n) m (open_view n.me.0 n.life c.args.request.now) c.args.at.0 (map arc_value c.args.documents.now.items) c.in-Some.count may c.in-Some.ensures.is)
