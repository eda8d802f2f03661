use Rattle.std.proofs.Common.{◌≡◌, ap, sym, ◌∙◌, [], ◌∷◌, suc, ◌+◌, ◌<◌, List, length, arith}
use Rattle.std.specs.Box.{with_value}
use Rattle.std.specs.List.{slice_set}
use Rattle.node_model.specs.States.{Open}
use Rattle.router_requests.specs.Fates.{fate_of}
use Rattle.router_requests.specs.Turns.{settled}
use Rattle.router_requests.specs.Works.{open_view}
use Rattle.router_requests.specs.declared.fates.Fate.{Fate}
use Rattle.router_requests.specs.Order.{Held}
use Rattle.router_requests.specs.declared.work.OpenRequest.{OpenRequest}
use Rattle.router_requests.proofs.Places.{rises_removed}
use Rattle.router_requests.proofs.Turns.{settled_leaves, settled_past, settled_put}
use Rattle.router_requests.proofs.Waits.{rises_at}
use Rattle.router_requests.proofs.list.OpenList.settle_at.Goals as goal

pub invariant_of-self : goal.invariant_of-self
invariant_of-self c =
    let inside : c.args.place < length c.args.self.now.requests.items = omega (arith, c.if-place-len.false, c.len.ensures, c.args.self.now.requests.ok.0) in record {
      rising = rises_at 0 c.args.self.now.taken c.args.place c.args.self.now.requests.items c.index_mut.result.now c.deref_mut.result.now c.stay.new.self c.args.self.now.rising inside c.index_mut.ensures.value c.deref_mut.ensures.value c.stay.ensures.count;
    }

pub invariant_of-self-in-Leaves : goal.invariant_of-self-in-Leaves
invariant_of-self-in-Leaves c = record {
  rising = rw c.remove.ensures.items (rises_removed 0 c.args.self.now.taken c.args.place c.args.self.now.requests.items c.args.self.now.rising);
}

pub returns-then-place-len-clause-opens : goal.returns-then-place-len-clause-opens
returns-then-place-len-clause-opens c = λ router life fates.
    settled_past (λ (q : Held). open_view router life q.value) c.args.self.now.requests.items c.args.place fates (c.args.fate ∷ fates)
    (omega (arith, c.if-place-len.true, c.len.ensures, c.args.self.now.requests.ok.0))

pub returns-in-Stays-clause-opens : goal.returns-in-Stays-clause-opens
returns-in-Stays-clause-opens c = λ router life fates.
    let items = c.args.self.now.requests.items in
    let inside : c.args.place < length items = omega (arith, c.if-place-len.false, c.len.ensures, c.args.self.now.requests.ok.0) in
    let plus : c.args.place + 1 ≡ suc c.args.place = omega arith in
    ap (λ n. settled (λ (q : Held). open_view router life q.value) n (slice_set items c.args.place (with_value c.index_mut.result.now c.stay.new.self)) fates) plus
    ∙ settled_put (λ (q : Held). open_view router life q.value) items c.args.place c.index_mut.result.now (with_value c.index_mut.result.now c.stay.new.self) c.args.fate fates inside c.index_mut.ensures.value
    (ap (λ (x : OpenRequest). fate_of (open_view router life x) c.args.fate) (sym c.deref_mut.ensures.value)
    ∙ ap (λ (f : Fate). fate_of (open_view router life c.deref_mut.result.now) f) c.in-Stays.is ∙ ap (λ (q : Open). q ∷ []) (sym (c.stay.ensures.stays router life)))

pub returns-in-Leaves-clause-opens : goal.returns-in-Leaves-clause-opens
returns-in-Leaves-clause-opens c = λ router life fates.
    let items = c.args.self.now.requests.items in
    let inside : c.args.place < length items = omega (arith, c.if-place-len.false, c.len.ensures, c.args.self.now.requests.ok.0) in
    ap (λ (l : List Held). settled (λ (q : Held). open_view router life q.value) c.args.place l fates) c.remove.ensures.items
    ∙ settled_leaves (λ (q : Held). open_view router life q.value) items c.args.place fates inside
    ∙ ap (λ (f : Fate). settled (λ (q : Held). open_view router life q.value) c.args.place items (f ∷ fates)) (sym c.in-Leaves.is)
