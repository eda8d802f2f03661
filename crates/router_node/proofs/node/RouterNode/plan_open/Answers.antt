use Rattle.std.proofs.Common.{◌≡◌, refl, sym, subst, ℕ}
use Rattle.std.specs.Option.{option_map}
use Rattle.base_model.specs.Identities.{RequestId}
use Rattle.command_model.specs.Command.{command_of}
use Rattle.node_model.specs.RouterNext as nexts
use Rattle.node_model.specs.RouterRequests as requested
use Rattle.node_model.specs.RouterRows.{opened_request}
use Rattle.protocol_model.specs.Heads.{head_request}
use Rattle.router_requests.specs.Askers.{asker_view}
use Rattle.router_requests.specs.Nexts.{begun_next}
use Rattle.router_requests.specs.Works.{work_view}
use Rattle.router_requests.specs.declared.begins.Begun.{Begun}
use Rattle.router_node.specs.RouterStates.{router_of}
use Rattle.router_node.specs.Rows.{started}
use Rattle.router_node.proofs.Sent.{begins_so}
use Rattle.router_node.proofs.node.RouterNode.plan_open.Goals as goal

pub returns-in-Waits : goal.returns-in-Waits
returns-in-Waits c =
    let n = c.args.self.now in
    let r = router_of n in
    let request = head_request c.args.asked.head in
    let work = work_view (requested.id_of r c.args.count) c.args.work in
    let q = opened_request (started r) c.args.asked.link c.args.asked.number request c.args.namespace work in
    let begins = begins_so (started r) (asker_view c.asker-asker.result) r.time c.asker-asker.ensures q c.args.count (λ (i : RequestId). work_view i c.args.work)
    (option_map (λ t. t.now) c.table_of-table.result) c.in_ok-begun.begun c.table_of-table.ensures (c.in_ok-begun.ensures q (sym c.requires.next) refl refl) in
    c.plan_waits.ensures work (record {
      plan = subst (λ (k : ℕ). requested.plan_of (started r) (requested.id_of r k) request.more (command_of request) ≡ requested.needs c.args.namespace work) c.requires.next c.requires.plan;
      begins = subst (λ (b : Begun). nexts.begins_work (started r) r.time q work ≡ begun_next (started r) r.time q work b) c.in-Waits.is begins;
    })

pub returns-in-Writes : goal.returns-in-Writes
returns-in-Writes c =
    let n = c.args.self.now in
    let r = router_of n in
    let request = head_request c.args.asked.head in
    let work = work_view (requested.id_of r c.args.count) c.args.work in
    let q = opened_request (started r) c.args.asked.link c.args.asked.number request c.args.namespace work in
    let begins = begins_so (started r) (asker_view c.asker-asker.result) r.time c.asker-asker.ensures q c.args.count (λ (i : RequestId). work_view i c.args.work)
    (option_map (λ t. t.now) c.table_of-table.result) c.in_ok-begun.begun c.table_of-table.ensures (c.in_ok-begun.ensures q (sym c.requires.next) refl refl) in
    c.plan_begun.ensures work refl (record {
      plan = subst (λ (k : ℕ). requested.plan_of (started r) (requested.id_of r k) request.more (command_of request) ≡ requested.needs c.args.namespace work) c.requires.next c.requires.plan;
      begins = subst (λ (b : Begun). nexts.begins_work (started r) r.time q work ≡ begun_next (started r) r.time q work b) c.in-Writes.is begins;
    })
