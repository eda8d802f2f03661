use Rattle.std.proofs.Common.{◌≢◌, ap, sym, subst, ◌∙◌, ℕ, List, [], map}
use Rattle.node_model.specs.Letters.{letter_input}
use Rattle.node_model.specs.RouterRequests as requested
use Rattle.node_model.specs.RouterNext as nexts
use Rattle.node_model.specs.States.{replaced}
use Rattle.node_traits.specs.Ids.{id_view}
use Rattle.protocol_model.specs.Bodies.{rows_view}
use Rattle.read_parts.specs.Parts.{part_view, target_view}
use Rattle.read_parts.specs.declared.parts.Part.{Part}
use Rattle.read_parts.specs.declared.parts.Target.{Target}
use Rattle.router_requests.specs.Works.{open_view, stages_of, telling_view}
use Rattle.router_node.specs.RouterStates.{router_of}
use Rattle.router_node.specs.Rows.{TookRow}
use Rattle.router_node.proofs.Heard.{found, gains_so, heard_by}
use Rattle.router_node.proofs.Fates.{rows_gained}
use Rattle.router_node.proofs.node.RouterNode.plan_part.Goals as goal

pub returns-then-have_all_come : goal.returns-then-have_all_come
returns-then-have_all_come c = λ m from late part work.
    let n = c.args.self.now in
    let q = open_view n.me.0 n.life c.args.request.now in
    let sender = c.args.sender.0 in
    let told = rows_view c.args.told in
    c.plan_gathered.ensures m (id_view c.args.id) from late part
    (ap (λ (l : List Target). nexts.awaited (map target_view l) (nexts.also_part q.parts sender told)) (sym c.deref.ensures.value)
    ∙ ap (λ (l : List Part). nexts.awaited (map target_view c.deref.result.now) (nexts.also_part (map part_view l) sender told)) (sym c.deref-2.ensures.value)
    ∙ c.have_all_come.ensures.all told c.if-have_all_come.true)
    work

pub returns-else-have_all_come : goal.returns-else-have_all_come
returns-else-have_all_come c = λ m from late part work.
    let n = c.args.self.now in
    let r = router_of n in
    let q = open_view n.me.0 n.life c.args.request.now in
    let id = id_view c.args.id in
    let read = c.args.read.now in
    let told = rows_view c.args.told in
    let some : nexts.awaited q.targets (nexts.also_part q.parts m.sender told) ≢ [] =
    subst (λ (s : ℕ). nexts.awaited q.targets (nexts.also_part q.parts s told) ≢ []) (sym from)
    (subst (λ (l : List Target). nexts.awaited (map target_view l) (nexts.also_part q.parts c.args.sender.0 told) ≢ []) c.deref.ensures.value
    (subst (λ (l : List Part). nexts.awaited (map target_view c.deref.result.now) (nexts.also_part (map part_view l) c.args.sender.0 told) ≢ []) c.deref-2.ensures.value
    (c.have_all_come.ensures.some told c.if-have_all_come.false))) in
    heard_by r m c.hears.result c.args.time.0 late _ _ _ c.hears.ensures ((λ e. e), q, found r id q part.opened)
    (gains_so r id q part.opened (letter_input m) [] [] (requested.heard r m) c.args.sender c.args.told
    (subst (λ (s : ℕ). TookRow r (letter_input m) [] [] (nexts.knows r (requested.heard r m) r.tables (replaced (nexts.with_part q s told) r.requests))) from
    (rows_gained r m id q part.opened told read.named read.at.0 (stages_of read.parts) (telling_view read.telling) part.body work part.sent some)))
