use Rattle.std.proofs.Common.{ap, sym}
use Rattle.node_model.specs.RouterRequests as requested
use Rattle.node_traits.specs.Ids.{id_view}
use Rattle.router_requests.specs.Works.{open_view, work_view}
use Rattle.router_requests.specs.declared.work.Work.{Work}
use Rattle.router_node.specs.RouterStates.{router_of}
use Rattle.router_node.proofs.Heard.{heard_late}
use Rattle.router_node.proofs.Fates.{split_late, split_of_none}
use Rattle.router_node.proofs.node.RouterNode.plan_split_done.Goals as goal

pub returns-in-None : goal.returns-in-None
returns-in-None c = λ m is late.
    let n = c.args.self.now in
    heard_late (router_of n) m c.late.result c.args.time.0 late c.late.ensures (split_of_none (router_of n) m (id_view c.args.told.id) _ is (sym c.in-None.ensures))

pub returns-in-Writing : goal.returns-in-Writing
returns-in-Writing c = λ m is late.
    let n = c.args.self.now in
    let q = open_view n.me.0 n.life c.in-Some.request.now in
    heard_late (router_of n) m c.late-in-Writing.result c.args.time.0 late c.late-in-Writing.ensures
    (split_late (router_of n) m (id_view c.args.told.id) q (sym c.in-Some.ensures) _ _ is (ap (λ (w : Work). work_view (requested.id_of (router_of n) c.in-Some.request.now.count) w) c.in-Writing.is) tt)

pub returns-in-Reading : goal.returns-in-Reading
returns-in-Reading c = λ m is late.
    let n = c.args.self.now in
    let q = open_view n.me.0 n.life c.in-Some.request.now in
    heard_late (router_of n) m c.late-in-Reading.result c.args.time.0 late c.late-in-Reading.ensures
    (split_late (router_of n) m (id_view c.args.told.id) q (sym c.in-Some.ensures) _ _ is (ap (λ (w : Work). work_view (requested.id_of (router_of n) c.in-Some.request.now.count) w) c.in-Reading.is) tt)

pub returns-in-Sharding : goal.returns-in-Sharding
returns-in-Sharding c = λ m is late.
    let n = c.args.self.now in
    let q = open_view n.me.0 n.life c.in-Some.request.now in
    heard_late (router_of n) m c.late-in-Sharding.result c.args.time.0 late c.late-in-Sharding.ensures
    (split_late (router_of n) m (id_view c.args.told.id) q (sym c.in-Some.ensures) _ _ is (ap (λ (w : Work). work_view (requested.id_of (router_of n) c.in-Some.request.now.count) w) c.in-Sharding.is) tt)

pub returns-in-Splitting : goal.returns-in-Splitting
returns-in-Splitting c = λ m is late.
    let n = c.args.self.now in
    c.plan_found.ensures m _ is late (ap (λ (w : Work). work_view (requested.id_of (router_of n) c.in-Some.request.now.count) w) c.in-Splitting.is)
