use Rattle.std.proofs.Common.{ap, sym, ◌∙◌, List, map}
use Rattle.node_model.specs.Letters.{write_done}
use Rattle.node_model.specs.RouterRequests as requested
use Rattle.node_traits.specs.Ids.{id_view}
use Rattle.router_requests.specs.Works.{open_view, work_view}
use Rattle.router_requests.specs.declared.work.Work.{Work}
use Rattle.protocol_model.specs.Statements.{done_view}
use Rattle.protocol_model.specs.declared.statement.Done.{Done}
use Rattle.router_node.specs.RouterStates.{router_of}
use Rattle.router_node.proofs.Heard.{heard_late}
use Rattle.router_node.proofs.Fates.{dones_of_none, dones_late, dones_of_read}
use Rattle.router_node.proofs.node.RouterNode.plan_dones.Goals as goal

pub returns-in-None : goal.returns-in-None
returns-in-None c = λ m is late.
    let n = c.args.self.now in
    heard_late (router_of n) m c.late.result c.args.time.0 late c.late.ensures (dones_of_none (router_of n) m (id_view c.args.told.now.id) _ is (sym c.in-None.ensures))

pub returns-in-Reading : goal.returns-in-Reading
returns-in-Reading c = λ m is late.
    let n = c.args.self.now in
    let q = open_view n.me.0 n.life c.in-Some.request.now in
    heard_late (router_of n) m c.late-in-Reading.result c.args.time.0 late c.late-in-Reading.ensures
    (dones_of_read (router_of n) m (id_view c.args.told.now.id) q (sym c.in-Some.ensures) _ _ _ _ _ is (ap (λ (w : Work). work_view (requested.id_of (router_of n) c.in-Some.request.now.count) w) c.in-Reading.is))

pub returns-in-Writing : goal.returns-in-Writing
returns-in-Writing c = λ m is late.
    c.plan_told.ensures m
    (is ∙ ap (λ (l : List Done). write_done (id_view c.args.told.now.id) (map done_view l)) (sym c.deref.ensures.value)) late

pub returns-in-Sharding : goal.returns-in-Sharding
returns-in-Sharding c = λ m is late.
    let n = c.args.self.now in
    let q = open_view n.me.0 n.life c.in-Some.request.now in
    heard_late (router_of n) m c.late-in-Sharding.result c.args.time.0 late c.late-in-Sharding.ensures
    (dones_late (router_of n) m (id_view c.args.told.now.id) q (sym c.in-Some.ensures) _ _ is (ap (λ (w : Work). work_view (requested.id_of (router_of n) c.in-Some.request.now.count) w) c.in-Sharding.is) tt)

pub returns-in-Splitting : goal.returns-in-Splitting
returns-in-Splitting c = λ m is late.
    let n = c.args.self.now in
    let q = open_view n.me.0 n.life c.in-Some.request.now in
    heard_late (router_of n) m c.late-in-Splitting.result c.args.time.0 late c.late-in-Splitting.ensures
    (dones_late (router_of n) m (id_view c.args.told.now.id) q (sym c.in-Some.ensures) _ _ is (ap (λ (w : Work). work_view (requested.id_of (router_of n) c.in-Some.request.now.count) w) c.in-Splitting.is) tt)
