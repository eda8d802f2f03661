use Rattle.std.proofs.Common.{◌≡◌, ap, sym, subst, ◌∙◌, ℕ, [], ◌∷◌, arith, rules, w32}
use Rattle.command_model.specs.Answers.{refusal_answer, answer_document}
use Rattle.node_model.specs.RouterRequests as requested
use Rattle.node_model.specs.RouterNext as nexts
use Rattle.node_traits.specs.Effects.{puts_of}
use Rattle.node_traits.specs.Ids.{id_view}
use Rattle.router_requests.specs.Works.{open_view, stages_of, telling_view}
use Rattle.router_node.specs.RouterStates.{router_of}
use Rattle.router_node.proofs.Heard.{heard_by}
use Rattle.command_replies.specs.Refusals.{refusal_view}
use mir.Val.{SFits}
use Rattle.base_model.specs.Refusals.{Refusal, time_ahead}
use Rattle.router_node.proofs.Puts.{told_as}
use Rattle.router_node.proofs.Fates.{time_ahead_told}
use Rattle.router_node.proofs.node.RouterNode.plan_ahead.Goals as goal

pub returns : goal.returns
returns c = λ m from is late.
    let n = c.args.self.now in
    let r = router_of n in
    let q = open_view n.me.0 n.life c.args.request.now in
    let id = id_view c.args.id in
    let fits : SFits w32 c.args.request.now.number = search rules in
    heard_by r m c.hears.result c.args.time.0 late _ _ _ c.hears.ensures (λ e. e)
    (time_ahead_told r m id q c.requires.open c.args.read.now.named c.args.read.now.at.0 (stages_of c.args.read.now.parts) (telling_view c.args.read.now.telling) _ is c.requires.work c.requires.waits (omega (arith, c.requires.ahead, late))
    (subst (λ (s : ℕ). requested.untold (nexts.also_told q.told s) (requested.shards_of r) ≡ []) (sym from) c.requires.all)
    (told_as _ (requested.id_of r q.count) (requested.heard r m) q.link q.number q.request (answer_document (refusal_answer (refusal_view c.time_ahead.result))) fits (c.in_ok-reply.ensures (requested.id_of r q.count) (requested.heard r m))
    ∙ ap (λ (x : Refusal). puts_of (nexts.reply_to r (requested.heard r m) q (refusal_answer x) ∷ [])) (c.time_ahead.ensures ∙ ap (λ (t : ℕ). time_ahead t) late)))
