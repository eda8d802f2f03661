use Rattle.std.proofs.Common.{ap, sym, subst, ◌∙◌, List, ℤ, [], ◌∷◌, refl, map, rules, true, ◌+◌, w32, w64}
use mir.Val.{SFits}
use Rattle.command_model.specs.Answers.{Answer, answer_document, refusal_answer}
use Rattle.node_model.specs.Letters.{Letter, client_input}
use Rattle.node_model.specs.RouterRequests as requested
use Rattle.node_traits.specs.Effects.{puts_of}
use Rattle.node_traits.specs.Lists.{listed}
use Rattle.protocol_model.specs.Messages.{letter_of}
use Rattle.protocol_model.specs.Heads.{head_request}
use Rattle.protocol_model.specs.declared.message.Message.{Message}
use Rattle.router_node.specs.Rows.{TookRow, started}
use Rattle.router_node.specs.RouterStates.{router_of}
use Rattle.router_node.specs.StepPlans.{changed}
use Rattle.router_node.specs.declared.step_plan.Change.{Change}
use Rattle.router_node.proofs.Puts.{told_as}
use Rattle.router_node.proofs.Started.{ok_starts}
use Rattle.router_node.specs.declared.step_plan.Change.TheVariants.{Counts}
use Rattle.command_replies.specs.Refusals.{refusal_view}
use Rattle.command_words.specs.Commands.{more_view}
use Rattle.base_model.specs.Errors.{cursor_not_found}
use Rattle.base_model.specs.Refusals.{Refusal, cursor_evidence}
use Rattle.std.proofs.lemmas.Int.{to_z-of_z}
use Rattle.router_node.proofs.Shown.{took_not_open}
use Rattle.router_node.proofs.node.RouterNode.plan_not_open.Goals as goal

pub returns : goal.returns
returns c =
    let n = c.args.self.now in
    let r = router_of n in
    let id = requested.id_of r (r.count + 1) in
    let request = head_request c.args.asked.head in
    let number = c.args.asked.number in
    let i = client_input c.args.asked.link number request in
    let reply = listed c.in_ok-reply.reply in
    let fits : SFits w32 c.args.asked.number = search rules in
    let whole : SFits w64 c.args.more.cursor = search rules in
    let change : Change = Counts in
    ok_starts r c.starts.result n.quiet i r.time r.moment change (map letter_of c.new-mail.result) reply tt tt (refl, c.requires.few)
    (subst (λ (ls : List Letter). TookRow (started r) i ls reply (changed r r.time true r.moment change)) (sym (ap (λ (ms : List Message). map letter_of ms) c.new-mail.ensures))
    (took_not_open r c.args.asked.link number request reply (more_view c.args.more) c.requires.plan c.requires.none
    (told_as reply id r.time c.args.asked.link number request (answer_document (refusal_answer (refusal_view c.not_open.result))) fits (c.in_ok-reply.ensures id r.time)
    ∙ ap (λ (x : Answer). puts_of (record { id = id; link = c.args.asked.link; number = number; request = request; time = r.time; document = answer_document x } ∷ [])) (ap (λ (x : Refusal). refusal_answer x) (c.not_open.ensures ∙ ap (λ (z : ℤ). record { error = cursor_not_found; evidence = cursor_evidence z }) (to_z-of_z w64 c.args.more.cursor whole))))))
    c.starts.ensures
