use Rattle.std.proofs.Common.{◌≡◌, sym, subst, ◌∙◌, ap, ℕ}
use Rattle.std.specs.Prelude.{Option, None}
use Rattle.std.specs.Option.{option_map}
use Rattle.node_model.specs.RouterNext as nexts
use Rattle.node_traits.specs.Ids.{id_view}
use Rattle.protocol_model.specs.Refusals.{cause_view}
use Rattle.router_requests.specs.Nexts.{next_view}
use Rattle.router_requests.specs.Works.{open_view}
use Rattle.router_requests.specs.declared.next.Next.{Next}
use Rattle.router_node.specs.RouterStates.{router_of}
use Rattle.router_node.proofs.Heard.{heard_late}
use Rattle.router_node.proofs.Refused.{refused_goes, refused_late}
use Rattle.router_node.proofs.node.RouterNode.plan_open_refused.Goals as goal

pub returns-in-None : goal.returns-in-None
returns-in-None c = λ m from is late.
    let n = c.args.self.now in
    let r = router_of n in
    let q = open_view n.me.0 n.life c.args.request.now in
    let time = c.args.time.0 in
    let cause = cause_view c.args.cause in
    heard_late r m c.late.result time late c.late.ensures
    (refused_late r m (id_view c.args.id) c.args.turn c.args.first cause q time is c.requires.open
    (ap (λ (s : ℕ). nexts.refused_next r time q s c.args.turn c.args.first cause) from ∙ c.in_ok-found.ensures
    ∙ ap (λ (o : Option Next). option_map (λ next. next_view r time q next) o) c.in-None.is))

pub returns-in-Some : goal.returns-in-Some
returns-in-Some c = λ m from is late.
    let n = c.args.self.now in
    let r = router_of n in
    let q = open_view n.me.0 n.life c.args.request.now in
    let time = c.args.time.0 in
    let cause = cause_view c.args.cause in
    c.plan_goes.ensures m late
    (refused_goes r m (id_view c.args.id) c.args.turn c.args.first cause q time (next_view r time q c.in-Some.next) is c.requires.open late
    (ap (λ (s : ℕ). nexts.refused_next r time q s c.args.turn c.args.first cause) from ∙ c.in_ok-found.ensures
    ∙ ap (λ (o : Option Next). option_map (λ next. next_view r time q next) o) c.in-Some.is))
