use Rattle.std.proofs.Common.{◌≡◌, sym}
use Rattle.std.proofs.lemmas.Result.{IfOk-weaker}
use Rattle.command_replies.specs.Refusals.{refusal_view}
use Rattle.node_model.specs.RouterNext as nexts
use Rattle.protocol_model.specs.Tables.{at_view}
use Rattle.router_requests.specs.Askers.{asker_view, knowing}
use Rattle.router_requests.specs.Nexts.{next_view}
use Rattle.router_requests.specs.Works.{open_view}
use Rattle.router_node.specs.RouterStates.{router_of}
use Rattle.router_node.proofs.Sent.{without_so}
use Rattle.router_node.proofs.node.RouterNode.next_without.Goals as goal

pub returns : goal.returns
returns c =
    let n = c.args.self.now in
    let r = router_of n in
    let a = asker_view c.asker.result in
    let time = c.args.time.0 in
    let request = c.args.request.now in
    let namespace = c.args.namespace.now in
    let at = at_view c.args.at in
    let refusal = refusal_view c.args.refusal.now in
    IfOk-weaker c.table_refused.result
    (λ next. nexts.table_refused (knowing r.tables a) time namespace c.args.create at refusal (open_view a.me a.life request) ≡ next_view a time (open_view a.me a.life request) next)
    (λ next. nexts.table_refused r time namespace c.args.create at refusal (open_view r.me r.life request) ≡ next_view r time (open_view r.me r.life request) next)
    (λ next found. without_so r a time c.asker.ensures namespace c.args.create at refusal request next found)
    (c.table_refused.ensures r.tables (sym c.table_of-known.ensures))
