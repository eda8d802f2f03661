use Rattle.std.proofs.Common.{◌≡◌, sym}
use Rattle.std.proofs.lemmas.Result.{IfOk-weaker}
use Rattle.std.specs.Option.{option_map}
use Rattle.node_model.specs.RouterNext as nexts
use Rattle.protocol_model.specs.Refusals.{cause_view}
use Rattle.router_requests.specs.Askers.{asker_view, knowing}
use Rattle.router_requests.specs.Nexts.{next_view}
use Rattle.router_requests.specs.Works.{open_view}
use Rattle.router_node.specs.RouterStates.{router_of}
use Rattle.router_node.proofs.Sent.{refused_so}
use Rattle.router_node.proofs.node.RouterNode.next_refused.Goals as goal

pub returns : goal.returns
returns c =
    let n = c.args.self.now in
    let r = router_of n in
    let a = asker_view c.asker.result in
    let time = c.args.time.0 in
    let request = c.args.request.now in
    let sender = c.args.sender.0 in
    let cause = cause_view c.args.cause in
    IfOk-weaker c.refused_next.result
    (λ found. nexts.refused_next (knowing r.tables a) time (open_view a.me a.life request) sender c.args.turn c.args.first cause
    ≡ option_map (λ next. next_view a time (open_view a.me a.life request) next) found)
    (λ found. nexts.refused_next r time (open_view r.me r.life request) sender c.args.turn c.args.first cause ≡ option_map (λ next. next_view r time (open_view r.me r.life request) next) found)
    (λ found is. refused_so r a time c.asker.ensures request sender c.args.turn c.args.first cause found is)
    (c.refused_next.ensures r.tables (sym c.table_of-known.ensures))
