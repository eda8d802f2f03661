-- One exchange more on a link.
use Rattle.std.proofs.Common.{◌≡◌, ◌+◌, ◌≤◌, List, [], ◌∷◌, ◌++◌, sym, subst}
use Rattle.std.specs.List.{AllByRecursion}
use Rattle.outside.specs.declared.exchange.Exchange.{Exchange}
use Rattle.node_model.specs.Letters.{Input}
use Rattle.pipe_driver.proofs.Frames.{all_more}
use Rattle.conn_server.specs.Talks.{AreRising, IsAsked, IsNoted, IsReplied, TalkView}
use Rattle.conn_server.proofs.Written.{rising_more}

-- the same view by two names
pub talk_more : {N L M I : Type 0} (meaning : I → Input) (v w : TalkView N L M I) (all : List Exchange) (e : Exchange) → v ≡ w
    → all ≡ v.said ++ e ∷ [] → AllByRecursion (λ x. IsNoted meaning v.link v.note x) v.said → AreRising 0 v.next v.said
    → IsAsked meaning w.note.taken w.link e.came e.request → IsReplied w.note.told w.link e.came e.step e.reply → w.next ≤ e.came
    → AllByRecursion (λ x. IsNoted meaning v.link v.note x) all × AreRising 0 (e.came + 1) all
talk_more {N} {L} {M} {I} meaning v w all e same is noted rising asked replied later =
    let one : IsNoted meaning v.link v.note e =
    subst (λ (t : TalkView N L M I). IsNoted meaning t.link t.note e) (sym same) (record { asked = asked; replied = replied }) in
    let after : v.next ≤ e.came = subst (λ (t : TalkView N L M I). t.next ≤ e.came) (sym same) later in (
      subst (λ (l : List Exchange). AllByRecursion (λ x. IsNoted meaning v.link v.note x) l) (sym is)
          (all_more (λ x. IsNoted meaning v.link v.note x) v.said e noted one),
      subst (λ (l : List Exchange). AreRising 0 (e.came + 1) l) (sym is) (rising_more 0 v.next v.said e rising after),
    )
