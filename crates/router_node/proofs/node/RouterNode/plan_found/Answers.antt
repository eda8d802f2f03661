use Rattle.std.proofs.Common.{ap, ◌∙◌, ℕ, [], ◌∷◌, if◌then◌else◌}
use Rattle.base_model.specs.Errors.{namespace_not_sharded}
use Rattle.base_model.specs.Refusals.{without_evidence}
use Rattle.command_model.specs.Answers.{Answer, changed_answer, refusal_answer}
use Rattle.node_model.specs.RouterRequests as requested
use Rattle.node_model.specs.RouterNext as nexts
use Rattle.node_traits.specs.Effects.{puts_of}
use Rattle.node_traits.specs.Ids.{id_view}
use Rattle.router_requests.specs.Works.{open_view}
use Rattle.router_node.specs.RouterStates.{router_of}
use Rattle.router_node.proofs.Heard.{heard_by}
use Rattle.router_node.proofs.Fates.{split_told}
use Rattle.router_node.proofs.node.RouterNode.plan_found.Goals as goal

pub returns : goal.returns
returns c = λ m middle is late work.
    let n = c.args.self.now in
    let r = router_of n in
    let q = open_view n.me.0 n.life c.args.request.now in
    heard_by r m c.hears.result c.args.time.0 late _ _ _ c.hears.ensures (λ e. e)
    (split_told r m (id_view c.args.id) q c.requires.open c.args.found middle _ is work
    (c.in_ok-reply.ensures (requested.heard r m)
    ∙ ap (λ (x : Answer). puts_of (nexts.reply_to r (requested.heard r m) q x ∷ []))
    (c.split_answer-answer.ensures ∙ ap (λ (t : ℕ). if c.args.found then changed_answer t else refusal_answer (without_evidence namespace_not_sharded)) late)))
