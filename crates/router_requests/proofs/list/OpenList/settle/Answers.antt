use Rattle.std.proofs.Common.{◌≡◌, ap, sym, ◌∙◌, [], List, length, arith}
use Rattle.std.specs.Vec.Iter.{into_iter_items}
use Rattle.router_requests.specs.Turns.{settled}
use Rattle.router_requests.specs.Works.{open_view}
use Rattle.router_requests.specs.declared.fates.Fate.{Fate}
use Rattle.router_requests.specs.Order.{Held}
use Rattle.router_requests.proofs.Turns.{none_left, settled_all}
use Rattle.router_requests.proofs.list.OpenList.settle.Goals as goal

pub loop-fate-preserved : goal.loop-fate-preserved
loop-fate-preserved c =
    let first = c.in-Some.ensures.steps.0 in
    let short = ap (λ (l : List Fate). length l) first in record {
      taken = c.settle_at-place.ensures.taken ∙ c.loop-fate.invariant.taken;
      left = omega (arith, short, c.loop-fate.invariant.left, c.in-Some.ensures.steps.1);
      opens = λ router life.
          c.settle_at-place.ensures.opens router life (into_iter_items c.next.new.self)
          ∙ ap (λ (l : List Fate). settled (λ (q : Held). open_view router life q.value) c.loop-fate.place c.loop-fate.self.requests.items l) (sym first)
          ∙ c.loop-fate.invariant.opens router life;
    }

pub returns-clause-opens : goal.returns-clause-opens
returns-clause-opens c = λ router life.
    let none : into_iter_items c.loop-fate.fate-iterator ≡ [] = none_left (into_iter_items c.loop-fate.fate-iterator) (sym c.loop-fate.invariant.left ∙ c.in-None.ensures.steps.0) in
    sym (settled_all (λ (q : Held). open_view router life q.value) c.loop-fate.self.requests.items c.loop-fate.place)
    ∙ ap (λ (l : List Fate). settled (λ (q : Held). open_view router life q.value) c.loop-fate.place c.loop-fate.self.requests.items l) (sym none)
    ∙ c.loop-fate.invariant.opens router life
