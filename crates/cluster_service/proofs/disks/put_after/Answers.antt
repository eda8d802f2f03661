use Rattle.std.proofs.Common.{◌≡◌, ◌∷◌, ◌∙◌, List, length, sym, ap, arith}
use Rattle.std.specs.Vec.Iter.{into_iter_items}
use Rattle.cluster_service.proofs.Lefts.{no_more, none_left, one_less}
use Rattle.cluster_service.proofs.disks.put_after.Goals as goal

pub loop-disk-preserved : goal.loop-disk-preserved
loop-disk-preserved g c =
    let at = c.loop-disk in
    let first : into_iter_items at.disk-iterator ≡ c.in-Some.disk ∷ into_iter_items c.next.new.self = c.in-Some.ensures.steps.0 in
    let short = ap (λ (l : List g.row.D.Denot). length l) first in
    record {
      all = one_less at.all.items c.push_reserved.new.self.items (into_iter_items at.disk-iterator) (into_iter_items c.next.new.self) _ c.in-Some.disk
          c.push_reserved.ensures.items first at.invariant.all;
      room = omega (arith, short, at.invariant.room, c.push_reserved.ensures.len, c.push_reserved.ensures.capacity);
      left = omega (arith, short, at.invariant.left, c.in-Some.ensures.steps.1);
    }

pub returns : goal.returns
returns g c =
    no_more c.loop-disk.all.items (into_iter_items c.loop-disk.disk-iterator) _
    (none_left (into_iter_items c.loop-disk.disk-iterator) (sym c.loop-disk.invariant.left ∙ c.in-None.ensures.steps.0)) c.loop-disk.invariant.all
