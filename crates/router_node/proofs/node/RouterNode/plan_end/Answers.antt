use Rattle.std.proofs.Common.{ap, sym, subst, List, ℤ, refl, map, rules, true, ◌+◌, w32}
use mir.Val.{SFits}
use Rattle.command_model.specs.Answers.{answer_document, killed_answer}
use Rattle.node_model.specs.Letters.{Letter, client_input}
use Rattle.node_model.specs.RouterRequests as requested
use Rattle.node_traits.specs.Lists.{listed}
use Rattle.protocol_model.specs.Messages.{letter_of}
use Rattle.protocol_model.specs.Heads.{head_request}
use Rattle.protocol_model.specs.declared.message.Message.{Message}
use Rattle.router_node.specs.Rows.{TookRow, started}
use Rattle.router_node.specs.RouterStates.{router_of}
use Rattle.router_node.specs.StepPlans.{changed}
use Rattle.router_node.specs.declared.step_plan.Change.{Change}
use Rattle.router_node.proofs.Puts.{told_as}
use Rattle.router_node.proofs.Started.{ok_starts}
use Rattle.router_node.specs.declared.step_plan.Change.TheVariants.{Ends}
use Rattle.command_words.specs.Commands.{kill_view}
use Rattle.reply_model.specs.Cursors.{Kills}
use Rattle.router_cursors.specs.CursorLists.{closed_all}
use Rattle.router_node.proofs.Shown.{took_end}
use Rattle.router_node.proofs.node.RouterNode.plan_end.Goals as goal

pub returns : goal.returns
returns c =
    let n = c.args.self.now in
    let r = router_of n in
    let id = requested.id_of r (r.count + 1) in
    let request = head_request c.args.asked.head in
    let number = c.args.asked.number in
    let i = client_input c.args.asked.link number request in
    let reply = listed c.in_ok-reply.reply in
    let fits : SFits w32 c.args.asked.number = search rules in
    let change : Change = Ends c.in_ok-closed.closed in
    ok_starts r c.starts.result n.quiet i r.time r.moment change (map letter_of c.new-mail.result) reply tt tt (refl, c.requires.few)
    (subst (λ (ls : List Letter). TookRow (started r) i ls reply (changed r r.time true r.moment change)) (sym (ap (λ (ms : List Message). map letter_of ms) c.new-mail.ensures))
    (took_end r c.args.asked.link number request reply (kill_view c.args.kill) c.in_ok-closing.closing.killed.items c.in_ok-closing.closing.missing.items c.in_ok-closed.closed c.requires.plan
    (subst (λ (ns : List ℤ). Kills id c.args.kill.namespace r.cursors ns c.in_ok-closing.closing.killed.items c.in_ok-closing.closing.missing.items (closed_all id c.in_ok-closing.closing.killed.items r.cursors)) c.deref.ensures.value
    (c.in_ok-closing.ensures r.me r.life (r.count + 1)))
    (search rules)
    (told_as reply id r.time c.args.asked.link number request (answer_document (killed_answer c.in_ok-closing.closing.killed.items c.in_ok-closing.closing.missing.items)) fits (c.in_ok-reply.ensures id r.time))))
    c.starts.ensures
