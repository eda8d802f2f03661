use Rattle.std.proofs.Common.{◌≡◌, ◌∷◌, ◌∙◌, List, length, map, sym, ap, arith}
use Rattle.std.specs.Vec.Iter.{into_iter_items}
use Rattle.node_cell.specs.declared.view.Placed.{Placed}
use Rattle.journal_frames.specs.Views.{JournalView}
use Rattle.cluster_service.specs.OpenJournals.{IsDurable}
use Rattle.cluster_service.proofs.Lefts.{all_after, no_more, none_left, one_less}
use Rattle.cluster_service.proofs.threads.take_placed.Goals as goal

pub loop-placed-preserved : goal.loop-placed-preserved
loop-placed-preserved g c =
    let at = c.loop-placed in
    let first : into_iter_items at.placed-iterator ≡ c.in-Some.placed ∷ into_iter_items c.next.new.self = c.in-Some.ensures.steps.0 in
    let short = ap (λ (l : List (Placed g.row.N.Denot (JournalView g.row.D.Denot))). length l) first in
    record {
      all = one_less at.back.items c.push_reserved.new.self.items (map (λ p. p.seat.log.disk) (into_iter_items at.placed-iterator))
          (map (λ p. p.seat.log.disk) (into_iter_items c.next.new.self)) _ c.in-Some.placed.seat.log.disk
          (rw (← c.placed_disk.ensures.disk) c.push_reserved.ensures.items) (ap (λ (l : List (Placed g.row.N.Denot (JournalView g.row.D.Denot))). map (λ p. p.seat.log.disk) l) first) at.invariant.all;
      durable = λ told are_open.
          let was = at.invariant.durable told are_open in
          let left = rw first at was.1 in (
            all_after (IsDurable g.D.Disk.content g.D.Disk.may_leave) at.back.items c.push_reserved.new.self.items c.placed_disk.result c.push_reserved.ensures.items was.0
                (c.placed_disk.ensures.durable left.0 told),
            left.1,
          );
      room = omega (arith, short, at.invariant.room, c.push_reserved.ensures.len, c.push_reserved.ensures.capacity);
      left = omega (arith, short, at.invariant.left, c.in-Some.ensures.steps.1);
    }

pub returns-clause-disks : goal.returns-clause-disks
returns-clause-disks g c =
    no_more c.loop-placed.back.items (map (λ p. p.seat.log.disk) (into_iter_items c.loop-placed.placed-iterator)) _
    (ap (λ (l : List (Placed g.row.N.Denot (JournalView g.row.D.Denot))). map (λ p. p.seat.log.disk) l)
    (none_left (into_iter_items c.loop-placed.placed-iterator) (sym c.loop-placed.invariant.left ∙ c.in-None.ensures.steps.0))) c.loop-placed.invariant.all

pub returns-clause-durable : goal.returns-clause-durable
returns-clause-durable g c = λ told are_open. (c.loop-placed.invariant.durable told are_open).0
