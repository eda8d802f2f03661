use Rattle.std.proofs.Common.{◌≡◌, ap, sym, subst, ◌∙◌, List, ℕ, ℤ, [], ◌∷◌, refl, map, rules, true, ◌+◌, w32, w64}
use Rattle.std.proofs.lemmas.Int.{to_z-of_z}
use mir.Val.{SFits, of_z, to_z}
use Rattle.command_replies.specs.AnswerMeanings.{answer_view}
use Rattle.command_model.specs.Answers.{Answer, answer_document}
use Rattle.reply_model.specs.Cursors.{ShowsNext}
use Rattle.node_model.specs.Letters.{Letter, client_input}
use Rattle.node_model.specs.RouterRequests as requested
use Rattle.node_traits.specs.Effects.{puts_of}
use Rattle.node_traits.specs.Lists.{listed}
use Rattle.protocol_model.specs.Messages.{letter_of}
use Rattle.protocol_model.specs.Heads.{head_request}
use Rattle.protocol_model.specs.declared.message.Message.{Message}
use Rattle.router_node.specs.Rows.{TookRow, started}
use Rattle.router_node.specs.RouterStates.{router_of}
use Rattle.router_node.specs.StepPlans.{changed}
use Rattle.router_node.specs.declared.step_plan.Change.{Change}
use Rattle.router_node.proofs.Puts.{told_as}
use Rattle.router_node.proofs.Started.{ok_starts}
use Rattle.router_node.specs.declared.step_plan.Change.TheVariants.{Counts, Advances}
use Rattle.command_words.specs.Commands.{more_view}
use Rattle.router_cursors.specs.CursorLists.{advanced, batch_of}
use Rattle.router_node.proofs.Shown.{took_silent, took_batch}
use Rattle.router_node.proofs.node.RouterNode.plan_next.Goals as goal

pub returns-then-head : goal.returns-then-head
returns-then-head c =
    let n = c.args.self.now in
    let r = router_of n in
    let id = requested.id_of r (r.count + 1) in
    let request = head_request c.args.asked.head in
    let number = c.args.asked.number in
    let i = client_input c.args.asked.link number request in
    let reply = listed c.in_ok-reply.reply in
    let fits : SFits w32 c.args.asked.number = search rules in
    let change : Change = Counts in
    ok_starts r c.starts.result n.quiet i r.time r.moment change (map letter_of c.new-mail.result) reply tt tt (refl, c.requires.few)
    (subst (λ (ls : List Letter). TookRow (started r) i ls reply (changed r r.time true r.moment change)) (sym (ap (λ (ms : List Message). map letter_of ms) c.new-mail.ensures))
    (took_silent r c.args.asked.link number request reply (more_view c.args.more) c.requires.plan c.requires.shows.0 (batch_of c.args.more.cursor c.args.more.namespace c.args.shown) _ c.if-head.true c.requires.shows.1 c.requires.shows.2
    (told_as reply id r.time c.args.asked.link number request (answer_document (answer_view c.next_answer-answer.result)) fits (c.in_ok-reply.ensures id r.time)
    ∙ ap (λ (x : Answer). puts_of (record { id = id; link = c.args.asked.link; number = number; request = request; time = r.time; document = answer_document x } ∷ [])) c.next_answer-answer.ensures)))
    c.starts.ensures

pub returns : goal.returns
returns c =
    let n = c.args.self.now in
    let r = router_of n in
    let id = requested.id_of r (r.count + 1) in
    let request = head_request c.args.asked.head in
    let number = c.args.asked.number in
    let i = client_input c.args.asked.link number request in
    let reply = listed c.in_ok-reply.reply in
    let fits : SFits w32 c.args.asked.number = search rules in
    let whole : SFits w64 c.args.more.cursor = search rules in
    let same : to_z w64 (of_z w64 c.args.more.cursor) ≡ c.args.more.cursor = to_z-of_z w64 c.args.more.cursor whole in
    let change : Change = Advances (to_z w64 (of_z w64 c.args.more.cursor)) c.len-count.result in
    ok_starts r c.starts-else-head.result n.quiet i r.time r.moment change (map letter_of c.new-mail.result) reply tt tt (refl, c.requires.few)
    (subst (λ (ls : List Letter). TookRow (started r) i ls reply (changed r r.time true r.moment change)) (sym (ap (λ (ms : List Message). map letter_of ms) c.new-mail.ensures))
    (subst (λ (z : ℤ). TookRow (started r) i [] reply (changed r r.time true r.moment (Advances z c.len-count.result))) (sym same)
    (took_batch r c.args.asked.link number request reply (more_view c.args.more) c.requires.plan c.requires.shows.0 (batch_of c.args.more.cursor c.args.more.namespace c.args.shown) c.len-count.result c.if-head.false c.requires.shows.1
    (subst (λ (k : ℕ). ShowsNext id c.args.more.size r.cursors c.requires.shows.0 (batch_of c.args.more.cursor c.args.more.namespace c.args.shown) (advanced id c.args.more.cursor k r.cursors))
    (sym (c.len-count.ensures ∙ c.args.shown.documents.ok.0)) c.requires.shows.2)
    (told_as reply id r.time c.args.asked.link number request (answer_document (answer_view c.next_answer-answer.result)) fits (c.in_ok-reply.ensures id r.time)
    ∙ ap (λ (x : Answer). puts_of (record { id = id; link = c.args.asked.link; number = number; request = request; time = r.time; document = answer_document x } ∷ [])) c.next_answer-answer.ensures))))
    c.starts-else-head.ensures
