use Rattle.std.proofs.Common.{◌≡◌, ap, ◌∙◌, ◌<◌, length, map, arith}
use Rattle.node_model.specs.States.{Open, replaced}
use Rattle.router_requests.specs.Fates.{stay_of}
use Rattle.router_requests.specs.Works.{open_view}
use Rattle.router_requests.proofs.Waits.{is_put, not_there, rises_put, was_there}
use Rattle.router_requests.proofs.list.OpenList.stay.Goals as goal

pub invariant_of-self : goal.invariant_of-self
invariant_of-self c =
    let inside : c.place-place.result < length c.args.self.now.requests.items = omega (arith, c.if-place-len.true, c.len.ensures, c.args.self.now.requests.ok.0) in record {
      rising = rises_put c.args.count c.args.self.now.taken c.place-place.result c.args.self.now.requests.items c.index_mut.result.now c.deref_mut.result.now c.stay.new.self c.args.self.now.rising c.place-place.ensures inside c.index_mut.ensures.value c.deref_mut.ensures.value c.stay.ensures.count;
    }

pub returns-then-place-len-clause-opens : goal.returns-then-place-len-clause-opens
returns-then-place-len-clause-opens c = λ router life q found.
    let inside : c.place-place.result < length c.args.self.now.requests.items = omega (arith, c.if-place-len.true, c.len.ensures, c.args.self.now.requests.ok.0) in
    let was : open_view router life c.deref_mut.result.now ≡ q = was_there router life c.args.count c.place-place.result c.args.self.now.requests.items c.index_mut.result.now c.deref_mut.result.now q c.place-place.ensures inside c.index_mut.ensures.value c.deref_mut.ensures.value found in
    is_put router life c.args.count c.args.self.now.taken c.place-place.result c.args.self.now.requests.items c.index_mut.result.now c.deref_mut.result.now c.stay.new.self
    c.args.self.now.rising c.place-place.ensures inside c.index_mut.ensures.value c.deref_mut.ensures.value c.stay.ensures.count
    ∙ ap (λ (x : Open). replaced x (map (λ p. open_view router life p.value) c.args.self.now.requests.items))
    (c.stay.ensures.stays router life ∙ ap (λ (x : Open). stay_of x c.args.stay) was)

pub returns-else-place-len-clause-opens : goal.returns-else-place-len-clause-opens
returns-else-place-len-clause-opens c = λ router life q found.
    absurd (not_there router life c.args.count c.args.self.now.requests.items q (omega (arith, c.if-place-len.false, c.place-place.ensures, c.len.ensures, c.args.self.now.requests.ok.0)) found)
