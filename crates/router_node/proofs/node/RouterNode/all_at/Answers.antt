use Rattle.std.proofs.Common.{◌≡◌, subst}
use Rattle.node_model.specs.States as states
use Rattle.node_model.specs.RouterNext as nexts
use Rattle.router_node.specs.Rows.{started}
use Rattle.router_requests.specs.Nexts.{next_view}
use Rattle.router_requests.specs.Order.{Held}
use Rattle.router_requests.specs.Works.{open_view}
use Rattle.router_requests.specs.declared.work.OpenRequest.{OpenRequest}
use Rattle.router_node.specs.AllNext.{Adds}
use Rattle.router_node.specs.RouterStates.{router_of}
use Rattle.router_node.proofs.AllNexts.{turn_found}
use Rattle.router_node.proofs.node.RouterNode.all_at.Goals as goal

pub loop-request-preserved : goal.loop-request-preserved
loop-request-preserved c =
    let n = c.args.self.now in
    let r = router_of n in
    let time = c.args.time.0 in
    let meant = λ (x : OpenRequest). open_view n.me.0 n.life x in
    let item = c.request-item.result in
    turn_found (λ (p : Held). meant p.value) (λ (q : states.Open). nexts.at_moment (started r) time c.args.moment q) c.args.requests.now c.loop-request.request-index item
    c.loop-request.all c.add_next.new.all (next_view r time (meant item.value) c.in_ok-next.next) c.loop-request-test.true c.request-item.is c.loop-request.invariant
    (subst (λ (x : OpenRequest). nexts.at_moment (started r) time c.args.moment (meant x) ≡ next_view r time (meant x) c.in_ok-next.next) c.deref.ensures c.in_ok-next.ensures)
    (subst (λ (x : OpenRequest). Adds (meant x) (next_view r time (meant x) c.in_ok-next.next) c.loop-request.all c.add_next.new.all) c.deref-in-loop-request.ensures c.in_ok-add_next.ensures)
