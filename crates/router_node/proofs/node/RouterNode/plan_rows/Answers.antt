use Rattle.std.proofs.Common.{◌≡◌, ◌≢◌, ap, sym, subst, ◌∙◌, ℕ, ◌⊎◌, List, map, false}
use Rattle.node_model.specs.Letters.{read_rows}
use Rattle.protocol_model.specs.Bodies.{rows_view}
use Rattle.node_model.specs.RouterRequests as requested
use Rattle.node_model.specs.RouterNext as nexts
use Rattle.node_traits.specs.Ids.{id_view}
use Rattle.read_parts.specs.Parts.{target_view}
use Rattle.read_parts.specs.declared.parts.Target.{Target}
use Rattle.protocol_model.specs.declared.refused.Try.{Try}
use Rattle.router_requests.specs.Works.{open_view, work_view}
use Rattle.router_requests.specs.declared.work.Work.{Work}
use Rattle.write_runs.specs.Runs.{tries_view}
use Rattle.router_node.specs.RouterStates.{router_of}
use Rattle.router_node.proofs.Heard.{heard_late}
use Rattle.router_node.proofs.Fates.{rows_of_none, rows_late, rows_of_write, rows_of_turn}
use Rattle.router_node.proofs.node.RouterNode.plan_rows.Goals as goal

pub returns-in-None : goal.returns-in-None
returns-in-None c = λ m from is late.
    let n = c.args.self.now in
    heard_late (router_of n) m c.late.result c.args.time.0 late c.late.ensures (rows_of_none (router_of n) m (id_view c.args.told.id) _ _ is (sym c.in-None.ensures))

pub returns-in-Writing : goal.returns-in-Writing
returns-in-Writing c = λ m from is late.
    let n = c.args.self.now in
    let q = open_view n.me.0 n.life c.in-Some.request.now in
    heard_late (router_of n) m c.late-in-Writing.result c.args.time.0 late c.late-in-Writing.ensures
    (rows_of_write (router_of n) m (id_view c.args.told.id) q (sym c.in-Some.ensures) _ _ _ _ _ _ is (ap (λ (w : Work). work_view (requested.id_of (router_of n) c.in-Some.request.now.count) w) c.in-Writing.is))

pub returns-else-is_part : goal.returns-else-is_part
returns-else-is_part c = λ m from is late.
    let n = c.args.self.now in
    let q = open_view n.me.0 n.life c.in-Some.request.now in
    heard_late (router_of n) m c.late-else-is_part.result c.args.time.0 late c.late-else-is_part.ensures
    (rows_of_turn (router_of n) m (id_view c.args.told.id) q (sym c.in-Some.ensures) _ _ _ _ _ _ is (ap (λ (w : Work). work_view (requested.id_of (router_of n) c.in-Some.request.now.count) w) c.in-Reading.is)
    (subst (λ (s : ℕ). (c.args.told.turn ≢ requested.turn_after q.tries) ⊎ (nexts.is_target s q.targets ≡ false)) (sym from)
    (subst (λ (l : List Target). (c.args.told.turn ≢ requested.turn_after q.tries) ⊎ (nexts.is_target c.args.sender.0 (map target_view l) ≡ false)) c.deref-in-Reading.ensures.value
    (subst (λ (l : List Try). (c.args.told.turn ≢ requested.turn_after (tries_view l)) ⊎ (nexts.is_target c.args.sender.0 (map target_view c.deref-in-Reading.result.now) ≡ false)) c.deref.ensures.value
    (c.is_part.ensures.other c.if-is_part.false)))))

pub returns-then-is_part : goal.returns-then-is_part
returns-then-is_part c = λ m from is late.
    let n = c.args.self.now in
    let q = open_view n.me.0 n.life c.in-Some.request.now in
    c.plan_part.ensures m from late
    (record {
      body = is ∙ ap (λ (turn : ℕ). read_rows (id_view c.args.told.id) turn (rows_view c.args.told.rows))
          (c.is_part.ensures.turn c.if-is_part.true ∙ ap (λ (l : List Try). requested.turn_after (tries_view l)) c.deref.ensures.value);
      opened = sym c.in-Some.ensures;
      sent = ap (λ (s : ℕ). nexts.is_target s q.targets) from ∙ ap (λ (l : List Target). nexts.is_target c.args.sender.0 (map target_view l)) (sym c.deref-in-Reading.ensures.value)
          ∙ c.is_part.ensures.sent c.if-is_part.true;
    })
    (ap (λ (w : Work). work_view (requested.id_of (router_of n) c.in-Some.request.now.count) w) c.in-Reading.is)

pub returns-in-Sharding : goal.returns-in-Sharding
returns-in-Sharding c = λ m from is late.
    let n = c.args.self.now in
    let q = open_view n.me.0 n.life c.in-Some.request.now in
    heard_late (router_of n) m c.late-in-Sharding.result c.args.time.0 late c.late-in-Sharding.ensures
    (rows_late (router_of n) m (id_view c.args.told.id) q (sym c.in-Some.ensures) _ _ _ is (ap (λ (w : Work). work_view (requested.id_of (router_of n) c.in-Some.request.now.count) w) c.in-Sharding.is) tt)

pub returns-in-Splitting : goal.returns-in-Splitting
returns-in-Splitting c = λ m from is late.
    let n = c.args.self.now in
    let q = open_view n.me.0 n.life c.in-Some.request.now in
    heard_late (router_of n) m c.late-in-Splitting.result c.args.time.0 late c.late-in-Splitting.ensures
    (rows_late (router_of n) m (id_view c.args.told.id) q (sym c.in-Some.ensures) _ _ _ is (ap (λ (w : Work). work_view (requested.id_of (router_of n) c.in-Some.request.now.count) w) c.in-Splitting.is) tt)
