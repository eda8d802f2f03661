use Rattle.std.proofs.Common.{ap, sym, subst, List, refl, map, rules, true, ◌+◌, w32}
use mir.Val.{SFits}
use Rattle.command_model.specs.Answers.{answer_document}
use Rattle.command_replies.specs.AnswerMeanings.{answer_view}
use Rattle.node_model.specs.Letters.{Letter, client_input}
use Rattle.node_model.specs.RouterNext as nexts
use Rattle.node_model.specs.RouterRequests as requested
use Rattle.node_model.specs.RouterRows.{opened_request}
use Rattle.node_traits.specs.Lists.{listed}
use Rattle.protocol_model.specs.Heads.{head_request}
use Rattle.protocol_model.specs.Messages.{letter_of}
use Rattle.protocol_model.specs.declared.message.Message.{Message}
use Rattle.router_node.specs.RouterStates.{router_of}
use Rattle.router_node.specs.Rows.{TookRow, started}
use Rattle.router_node.specs.StepPlans.{changed}
use Rattle.router_node.specs.declared.step_plan.Change.TheVariants.{Counts}
use Rattle.router_node.proofs.Puts.{told_as}
use Rattle.router_node.proofs.Started.{ok_starts, took_done}
use Rattle.router_node.proofs.node.RouterNode.plan_done.Goals as goal

pub returns : goal.returns
returns c = λ namespace needed begun.
    let n = c.args.self.now in
    let r = router_of n in
    let request = head_request c.args.asked.head in
    let number = c.args.asked.number in
    let i = client_input c.args.asked.link number request in
    let answer = answer_view c.args.answer.now in
    let q = opened_request (started r) c.args.asked.link number request namespace needed in
    let reply = listed c.in_ok-reply.reply in
    let fits : SFits w32 c.args.asked.number = search rules in
    ok_starts r c.starts.result n.quiet i r.time r.moment Counts (map letter_of c.new-mail.result) reply tt tt (refl, c.requires.few)
    (subst (λ (ls : List Letter). TookRow (started r) i ls reply (changed r r.time true r.moment Counts)) (sym (ap (λ (ms : List Message). map letter_of ms) c.new-mail.ensures))
    (took_done r c.args.asked.link number request namespace needed (nexts.is_told (nexts.reply_to r r.time q answer)) begun (nexts.reply_to r r.time q answer) reply refl
    (told_as reply (requested.id_of r (r.count + 1)) r.time c.args.asked.link number request (answer_document answer) fits
    (c.in_ok-reply.ensures (requested.id_of r (r.count + 1)) r.time))))
    c.starts.ensures
