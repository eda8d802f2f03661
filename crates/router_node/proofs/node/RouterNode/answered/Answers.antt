use Rattle.std.proofs.Common.{◌≡◌, ap, subst, List, [], ◌∷◌, rules, w32, ℤ}
use Rattle.std.proofs.lemmas.Int.{to_z-of_z}
use mir.Val.{SFits}
use Rattle.std.specs.Prelude.{IfOk}
use Rattle.command_model.specs.Answers.{answer_document}
use Rattle.command_replies.specs.AnswerMeanings.{answer_view}
use Rattle.node_model.specs.RouterRequests as requested
use Rattle.node_traits.specs.Effects.{puts_of}
use Rattle.node_traits.specs.Lists.{listed}
use Rattle.node_traits.specs.declared.outputs.ToLink.{ToLink}
use Rattle.router_requests.specs.Works.{open_view}
use Rattle.router_node.specs.RouterStates.{router_of}
use Rattle.router_node.proofs.node.RouterNode.answered.Goals as goal

pub returns : goal.returns
returns c = λ time.
    let n = c.args.self.now in
    let r = router_of n in
    let q = open_view n.me.0 n.life c.args.request.now in
    let fits : SFits w32 c.args.request.now.number = search rules in
    subst (λ (rs : List ToLink). IfOk c.reply_to.result (λ reply. listed reply ≡ rs))
    (ap (λ (z : ℤ). puts_of (record { id = requested.id_of r q.count; link = q.link; number = z; request = q.request; time = time; document = answer_document (answer_view c.args.answer.now) } ∷ []))
    (to_z-of_z w32 c.args.request.now.number fits))
    (c.reply_to.ensures (requested.id_of r q.count) time)
