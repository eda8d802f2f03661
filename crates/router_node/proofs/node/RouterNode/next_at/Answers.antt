use Rattle.std.proofs.Common.{◌≡◌, sym}
use Rattle.std.proofs.lemmas.Result.{IfOk-weaker}
use Rattle.node_model.specs.RouterNext as nexts
use Rattle.router_requests.specs.Askers.{asker_view, knowing}
use Rattle.router_requests.specs.Nexts.{next_view}
use Rattle.router_requests.specs.Works.{open_view}
use Rattle.router_node.specs.RouterStates.{router_of}
use Rattle.router_node.specs.Rows.{started}
use Rattle.router_node.proofs.Sent.{moment_so}
use Rattle.router_node.proofs.node.RouterNode.next_at.Goals as goal

pub returns : goal.returns
returns c =
    let n = c.args.self.now in
    let r = started (router_of n) in
    let a = asker_view c.asker.result in
    let time = c.args.time.0 in
    let request = c.args.request.now in
    IfOk-weaker c.at_moment.result
    (λ next. nexts.at_moment (knowing r.tables a) time c.args.moment (open_view a.me a.life request) ≡ next_view a time (open_view a.me a.life request) next)
    (λ next. nexts.at_moment r time c.args.moment (open_view r.me r.life request) ≡ next_view r time (open_view r.me r.life request) next)
    (λ next found. moment_so r a time c.asker.ensures c.args.moment request next found)
    (c.at_moment.ensures r.tables (sym c.table_of-known.ensures))
