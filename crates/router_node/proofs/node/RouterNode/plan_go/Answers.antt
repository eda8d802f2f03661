use Rattle.std.proofs.Common.{◌≡◌, ap, sym, subst, ◌∙◌, ℕ, List, [], map, refl, arith}
use Rattle.std.specs.Option.{option_map}
use Rattle.node_model.specs.Letters.{Letter, letter_input}
use Rattle.node_model.specs.RouterRequests as requested
use Rattle.node_model.specs.RouterNext as nexts
use Rattle.node_model.specs.States as states
use Rattle.node_traits.specs.Ids.{id_view}
use Rattle.node_traits.specs.declared.outputs.ToLink.{ToLink}
use Rattle.protocol_model.specs.Messages.{letter_of}
use Rattle.protocol_model.specs.declared.message.Message.{Message}
use Rattle.protocol_model.specs.declared.refused.Try.{Try}
use Rattle.router_requests.specs.Askers.{asker_view}
use Rattle.router_requests.specs.Nexts.{read_next, sent_open}
use Rattle.router_requests.specs.Works.{open_view, read_view, stages_of, telling_view}
use Rattle.write_runs.specs.Runs.{tries_view}
use Rattle.router_node.specs.RouterStates.{router_of}
use Rattle.router_node.specs.StepPlans.{Hears}
use Rattle.router_node.specs.declared.step_plan.Change.TheVariants.{Reaches}
use Rattle.router_node.proofs.Heard.{heard_by, reaches_so, found}
use Rattle.router_node.proofs.Fates.{time_reached}
use Rattle.router_node.proofs.Sent.{reads_on}
use Rattle.router_node.proofs.node.RouterNode.plan_go.Goals as goal

pub returns : goal.returns
returns c = λ m is late.
    let n = c.args.self.now in
    let r = router_of n in
    let q = open_view n.me.0 n.life c.args.request.now in
    let read = c.args.read.now in
    let id = id_view c.args.id in
    let time = c.args.time.0 in
    let at = c.at_reached.result.0 in
    let known = option_map (λ t. t.now) c.table_of.result in
    let s = c.in_ok-sends.sends in
    let letters = map letter_of s.mail.items in
    let work = requested.reached time (read_view read) in
    let change = Reaches c.args.id.count s.wait s.targets in
    let reaches : nexts.begins_work r (requested.heard r m) q (requested.reached (requested.heard r m) q.work) ≡ read_next q (requested.reached (requested.heard r m) q.work) s =
    subst (λ (t : ℕ). nexts.begins_work r t q (requested.reached t q.work) ≡ read_next q (requested.reached t q.work) s) late
    (reads_on r (asker_view c.asker.result) time c.asker.ensures q read at (requested.reached time q.work) known s c.table_of.ensures (c.at_reached.ensures.come c.requires.come)
    (c.at_reached.ensures.read ∙ ap (λ (w : states.Work). requested.reached time w) (sym c.requires.work)) (c.in_ok-sends.ensures q refl refl (sym (ap (λ (l : List Try). tries_view l) c.deref.ensures.value)))) in
    heard_by r m c.hears_all.result time late change letters []
    (subst (λ (ls : List Letter). Hears r time change ls [] c.hears_all.result) (ap (λ (ms : List Message). map letter_of ms) c.in_ok-mail.ensures)
    (subst (λ (rs : List ToLink). Hears r time change (map letter_of c.in_ok-mail.mail) rs c.hears_all.result) c.new-replies.ensures c.hears_all.ensures))
    ((λ e. e), q, found r id q c.requires.open)
    (reaches_so r id q c.requires.open (letter_input m) letters [] (requested.heard r m) s.wait s.targets
    (time_reached r m id q c.requires.open read.named read.at.0 (stages_of read.parts) (telling_view read.telling) letters
    (sent_open q (requested.reached (requested.heard r m) q.work) s) is c.requires.work c.requires.waits (omega (arith, c.requires.come, late)) reaches))
