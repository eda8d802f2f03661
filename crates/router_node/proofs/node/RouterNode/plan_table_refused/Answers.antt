use Rattle.std.proofs.Common.{subst, map}
use Rattle.base_model.specs.Refusals.{Refusal}
use Rattle.node_model.specs.RouterNext as nexts
use Rattle.protocol_model.specs.Refusals.{lack_view}
use Rattle.protocol_model.specs.Tables.{at_view}
use Rattle.router_requests.specs.Works.{open_view}
use Rattle.router_node.specs.AllNext.{AreNext}
use Rattle.router_node.specs.RouterStates.{router_of}
use Rattle.router_node.proofs.AllSteps.{took_no_table}
use Rattle.router_node.proofs.Heard.{heard_by}
use Rattle.router_node.proofs.node.RouterNode.plan_table_refused.Goals as goal

pub returns : goal.returns
returns c = λ m is late.
    let n = c.args.self.now in
    let r = router_of n in
    let time = c.args.time.0 in
    let namespace = c.args.namespace.now in
    let at = at_view c.args.at in
    let requests = map (λ q. open_view n.me.0 n.life q.value) c.as_slice-requests.result.now in
    heard_by r m c.hears_all.result time late _ _ _ c.hears_all.ensures (λ e. e)
    (took_no_table r c.in_ok-all.all requests (c.as_slice-requests.ensures r.me r.life) m namespace c.args.create at c.args.node.0 (lack_view c.args.lack) time is late
    (subst (λ (x : Refusal). AreNext (λ q. nexts.table_refused r time namespace c.args.create at x q) requests c.in_ok-all.all) c.lack_refusal-refusal.ensures c.in_ok-all.ensures))
