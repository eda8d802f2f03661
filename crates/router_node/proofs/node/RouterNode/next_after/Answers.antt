use Rattle.std.proofs.Common.{◌≡◌}
use Rattle.std.proofs.lemmas.Result.{IfOk-weaker}
use Rattle.node_model.specs.RouterNext as nexts
use Rattle.protocol_model.specs.Tables.{at_view}
use Rattle.router_requests.specs.Askers.{asker_view}
use Rattle.router_requests.specs.Nexts.{next_view}
use Rattle.router_requests.specs.Works.{open_view}
use Rattle.router_node.specs.Nexts.{next_at, tables_told}
use Rattle.router_node.specs.RouterStates.{router_of}
use Rattle.router_node.proofs.Sent.{learns_so}
use Rattle.router_node.proofs.node.RouterNode.next_after.Goals as goal

pub returns : goal.returns
returns c =
    let n = c.args.self.now in
    let r = router_of n in
    let a = asker_view c.asker.result in
    let time = c.args.time.0 in
    let told = c.args.told.now in
    let request = c.args.request.now in
    IfOk-weaker c.next_of.result
    (λ next. nexts.next_of a time (tables_told told r.tables) told.namespace c.was_created.result (at_view told.at) (open_view a.me a.life request) ≡ next_view a time (open_view a.me a.life request) next)
    (λ next. next_at r time told (open_view r.me r.life request) ≡ next_view r time (open_view r.me r.life request) next)
    (λ next found. learns_so r a time c.asker.ensures told request c.was_created.result next c.was_created.ensures found)
    (c.next_of.ensures (tables_told told r.tables) c.requires)
