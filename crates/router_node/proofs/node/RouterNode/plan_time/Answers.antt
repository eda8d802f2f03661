use Rattle.std.proofs.Common.{ap, sym, ◌∙◌}
use Rattle.node_model.specs.RouterRequests as requested
use Rattle.node_traits.specs.Ids.{id_view}
use Rattle.router_requests.specs.Works.{open_view, work_view, wait_view}
use Rattle.router_requests.specs.declared.work.Work.{Work}
use Rattle.router_requests.specs.declared.work.Wait.{Wait}
use Rattle.router_node.specs.RouterStates.{router_of}
use Rattle.router_node.proofs.Heard.{heard_late}
use Rattle.router_node.proofs.Fates.{time_of_none, time_late, time_of_write, time_not_awaited}
use Rattle.router_node.proofs.node.RouterNode.plan_time.Goals as goal

pub returns-in-None : goal.returns-in-None
returns-in-None c = λ m from is late.
    let n = c.args.self.now in
    heard_late (router_of n) m c.late.result c.args.time.0 late c.late.ensures (time_of_none (router_of n) m (id_view c.args.told.now.id) is (sym c.in-None.ensures))

pub returns-in-Writing : goal.returns-in-Writing
returns-in-Writing c = λ m from is late.
    let n = c.args.self.now in
    let q = open_view n.me.0 n.life c.in-Some.request.now in
    heard_late (router_of n) m c.late-in-Writing.result c.args.time.0 late c.late-in-Writing.ensures
    (time_of_write (router_of n) m (id_view c.args.told.now.id) q (sym c.in-Some.ensures) _ _ _ _ is (ap (λ (w : Work). work_view (requested.id_of (router_of n) c.in-Some.request.now.count) w) c.in-Writing.is))

pub returns-in-ForCatalogue : goal.returns-in-ForCatalogue
returns-in-ForCatalogue c = λ m from is late.
    let n = c.args.self.now in
    let q = open_view n.me.0 n.life c.in-Some.request.now in
    heard_late (router_of n) m c.late-in-ForCatalogue.result c.args.time.0 late c.late-in-ForCatalogue.ensures
    (time_not_awaited (router_of n) m (id_view c.args.told.now.id) q (sym c.in-Some.ensures) _ _ _ _ is (ap (λ (w : Work). work_view (requested.id_of (router_of n) c.in-Some.request.now.count) w) c.in-Reading.is)
    (λ e. cc (sym (ap (λ (w : Wait). wait_view w) c.in-ForCatalogue.is) ∙ e)))

pub returns-in-ForShards : goal.returns-in-ForShards
returns-in-ForShards c = λ m from is late.
    let n = c.args.self.now in
    let q = open_view n.me.0 n.life c.in-Some.request.now in
    heard_late (router_of n) m c.late-in-ForShards.result c.args.time.0 late c.late-in-ForShards.ensures
    (time_not_awaited (router_of n) m (id_view c.args.told.now.id) q (sym c.in-Some.ensures) _ _ _ _ is (ap (λ (w : Work). work_view (requested.id_of (router_of n) c.in-Some.request.now.count) w) c.in-Reading.is)
    (λ e. cc (sym (ap (λ (w : Wait). wait_view w) c.in-ForShards.is) ∙ e)))

pub returns-in-Sharding : goal.returns-in-Sharding
returns-in-Sharding c = λ m from is late.
    let n = c.args.self.now in
    let q = open_view n.me.0 n.life c.in-Some.request.now in
    heard_late (router_of n) m c.late-in-Sharding.result c.args.time.0 late c.late-in-Sharding.ensures
    (time_late (router_of n) m (id_view c.args.told.now.id) q (sym c.in-Some.ensures) _ is (ap (λ (w : Work). work_view (requested.id_of (router_of n) c.in-Some.request.now.count) w) c.in-Sharding.is) tt)

pub returns-in-Splitting : goal.returns-in-Splitting
returns-in-Splitting c = λ m from is late.
    let n = c.args.self.now in
    let q = open_view n.me.0 n.life c.in-Some.request.now in
    heard_late (router_of n) m c.late-in-Splitting.result c.args.time.0 late c.late-in-Splitting.ensures
    (time_late (router_of n) m (id_view c.args.told.now.id) q (sym c.in-Some.ensures) _ is (ap (λ (w : Work). work_view (requested.id_of (router_of n) c.in-Some.request.now.count) w) c.in-Splitting.is) tt)
