use Rattle.std.proofs.Common.{◌≡◌, ◌≢◌, ap, sym, subst, ◌∙◌, ℕ, List, [], arith}
use Rattle.cluster_base.specs.declared.identity.NodeId.{NodeId}
use Rattle.node_model.specs.Letters.{letter_input}
use Rattle.node_model.specs.RouterRequests as requested
use Rattle.node_model.specs.RouterNext as nexts
use Rattle.node_model.specs.States as states
use Rattle.node_traits.specs.Ids.{id_view}
use Rattle.router_requests.specs.Askers.{asker_view}
use Rattle.router_requests.specs.Works.{numbers_of, open_view, stages_of, telling_view, told_by}
use Rattle.router_node.specs.RouterStates.{router_of}
use Rattle.router_node.proofs.Heard.{found, heard_by, told_so}
use Rattle.router_node.proofs.Fates.{time_heard}
use Rattle.router_node.proofs.node.RouterNode.plan_hear.Goals as goal

pub returns : goal.returns
returns c = λ m from is late.
    let n = c.args.self.now in
    let r = router_of n in
    let q = open_view n.me.0 n.life c.args.request.now in
    let id = id_view c.args.id in
    let read = c.args.read.now in
    let told = c.in_ok-told.told in
    let same : numbers_of told.items ≡ nexts.also_told q.told m.sender =
    c.in_ok-told.ensures ∙ ap (λ (l : List NodeId). nexts.also_told (numbers_of l) c.args.sender.0) c.deref.ensures.value ∙ ap (λ (s : ℕ). nexts.also_told q.told s) (sym from) in
    let left : requested.untold (nexts.also_told q.told m.sender) (requested.shards_of r) ≢ [] =
    subst (λ (l : List ℕ). requested.untold l (requested.shards_of r) ≢ []) same
    (subst (λ (x : states.Router). requested.untold (numbers_of told.items) (requested.shards_of x) ≢ []) c.asker.ensures
    (subst (λ (l : List NodeId). requested.untold (numbers_of l) (requested.shards_of (asker_view c.asker.result)) ≢ []) c.deref-2.ensures.value
    (c.have_all_told.ensures.some c.if-have_all_told.false))) in
    heard_by r m c.hears.result c.args.time.0 late _ _ _ c.hears.ensures ((λ e. e), q, found r id q c.requires.open)
    (told_so r id q c.requires.open (letter_input m) [] [] (requested.heard r m) told
    (time_heard r m id q c.requires.open read.named read.at.0 (stages_of read.parts) (telling_view read.telling) (told_by q (numbers_of told.items)) is c.requires.work c.requires.waits
    (omega (arith, c.requires.ahead, late)) left (ap (λ (l : List ℕ). told_by q l) same)))
