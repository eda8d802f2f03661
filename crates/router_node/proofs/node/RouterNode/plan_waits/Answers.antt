use Rattle.std.proofs.Common.{◌≡◌, ◌∙◌, ap, sym, subst, refl, map, rules, true, w32, ℤ, List, []}
use Rattle.std.proofs.lemmas.Int.{to_z-of_z}
use mir.Val.{SFits, of_z, to_z}
use Rattle.std.specs.Prelude.{IfOk}
use Rattle.node_model.specs.Letters.{Letter, client_input}
use Rattle.node_model.specs.RouterNext as nexts
use Rattle.node_model.specs.RouterRequests as requested
use Rattle.node_model.specs.RouterRows.{opened_request}
use Rattle.node_model.specs.States as states
use Rattle.protocol_model.specs.Heads.{head_request}
use Rattle.protocol_model.specs.Messages.{letter_of}
use Rattle.protocol_model.specs.declared.message.Message.{Message}
use Rattle.read_parts.specs.Parts.{target_view}
use Rattle.router_requests.specs.Order.{Held}
use Rattle.router_requests.specs.Works.{open_view, wait_view, work_view}
use Rattle.router_requests.specs.declared.work.OpenRequest.{OpenRequest}
use Rattle.router_node.specs.Begins.{Begins}
use Rattle.router_node.specs.RouterStates.{router_of}
use Rattle.router_node.specs.Rows.{TookRow, started}
use Rattle.router_node.specs.StepPlans.{IsPlanned, changed}
use Rattle.router_node.specs.declared.step_plan.Change.TheVariants.{Opens}
use Rattle.router_node.proofs.Started.{ok_starts, opens_so, took_open}
use Rattle.router_node.proofs.node.RouterNode.plan_waits.Goals as goal

pub returns : goal.returns
returns c = λ needed begun.
    let n = c.args.self.now in
    let r = router_of n in
    let link = c.args.asked.link in
    let request = head_request c.args.asked.head in
    let namespace = c.args.namespace in
    let fits : SFits w32 c.args.asked.number = search rules in
    let number : ℤ = to_z w32 (of_z w32 c.args.asked.number) in
    let o : OpenRequest = record {
      count = c.args.count;
      link = c.args.asked.link;
      number = number;
      head = c.args.asked.head;
      arrived = n.moment;
      limit = c.args.asked.limit;
      tries = c.new.result;
      namespace = c.args.namespace;
      wait = c.args.wait;
      told = c.new-2.result;
      targets = c.args.targets;
      parts = c.new-3.result;
      work = c.args.work;
      limited = c.new-arg-5-1.given.0;
    } in
    let b : Held = c.in_ok-opened.opened in
    let is : b.value ≡ o = c.in_ok-opened.ensures.ok in
    let letters = map letter_of c.args.mail.items in
    let becomes = λ (z : ℤ). nexts.stays (nexts.with_work (opened_request (started r) link z request namespace needed) (wait_view c.args.wait) (map target_view c.args.targets.items)
    (work_view (requested.id_of r c.args.count) c.args.work)) letters in
    let same = to_z-of_z w32 c.args.asked.number fits in
    subst (λ (z : ℤ). IfOk c.starts.result (λ p. IsPlanned r (client_input link z request) p)) same
    (ok_starts r c.starts.result n.quiet (client_input link number request) r.time r.moment (Opens b) (map letter_of c.in_ok-mail.mail) [] tt tt
    (refl, c.requires.few, ap (λ (x : OpenRequest). x.count) is ∙ c.requires.next)
    (subst (λ (ls : List Letter). TookRow (started r) (client_input link number request) ls [] (changed r r.time true r.moment (Opens b)))
    (sym (ap (λ (ms : List Message). map letter_of ms) c.in_ok-mail.ensures))
    (took_open r link number request namespace needed (becomes number)
    (subst (λ (z : ℤ). Begins r link z request namespace needed (becomes z)) (sym same) begun) b letters
    (ap (λ (q : states.Open). nexts.stays q letters) (opens_so r o needed c.requires.next refl c.new.ensures.items c.new-2.ensures.items c.new-3.ensures.items)
    ∙ ap (λ (x : OpenRequest). nexts.stays (open_view r.me r.life x) letters) (sym is))))
    c.starts.ensures)
