use Rattle.std.proofs.Common.{◌≡◌, ◌∷◌, ◌∙◌, List, length, map, sym, ap, arith}
use Rattle.std.specs.Vec.Iter.{into_iter_items}
use Rattle.driver_steps.specs.declared.seat.Seat.{Seat}
use Rattle.journal_frames.specs.Views.{JournalView}
use Rattle.cluster_service.specs.OpenJournals.{IsDurable}
use Rattle.cluster_service.proofs.Lefts.{all_after, no_more, none_left, one_less}
use Rattle.cluster_service.proofs.seats.take_disks.Goals as goal

pub loop-seat-preserved : goal.loop-seat-preserved
loop-seat-preserved g c =
    let at = c.loop-seat in
    let first : into_iter_items at.seat-iterator ≡ c.in-Some.seat ∷ into_iter_items c.next.new.self = c.in-Some.ensures.steps.0 in
    let short = ap (λ (l : List (Seat g.row.N.Denot (JournalView g.row.D.Denot))). length l) first in
    record {
      all = one_less at.back.items c.push_reserved.new.self.items (map (λ s. s.log.disk) (into_iter_items at.seat-iterator))
          (map (λ s. s.log.disk) (into_iter_items c.next.new.self)) _ c.in-Some.seat.log.disk
          (rw (← c.disk_of.ensures.disk) c.push_reserved.ensures.items) (ap (λ (l : List (Seat g.row.N.Denot (JournalView g.row.D.Denot))). map (λ s. s.log.disk) l) first) at.invariant.all;
      durable = λ told are_open.
          let was = at.invariant.durable told are_open in
          let left = rw first at was.1 in (
            all_after (IsDurable g.D.Disk.content g.D.Disk.may_leave) at.back.items c.push_reserved.new.self.items c.disk_of.result c.push_reserved.ensures.items was.0
                (c.disk_of.ensures.durable left.0 told),
            left.1,
          );
      room = omega (arith, short, at.invariant.room, c.push_reserved.ensures.len, c.push_reserved.ensures.capacity);
      left = omega (arith, short, at.invariant.left, c.in-Some.ensures.steps.1);
    }

pub returns-clause-disks : goal.returns-clause-disks
returns-clause-disks g c =
    no_more c.loop-seat.back.items (map (λ s. s.log.disk) (into_iter_items c.loop-seat.seat-iterator)) _
    (ap (λ (l : List (Seat g.row.N.Denot (JournalView g.row.D.Denot))). map (λ s. s.log.disk) l)
    (none_left (into_iter_items c.loop-seat.seat-iterator) (sym c.loop-seat.invariant.left ∙ c.in-None.ensures.steps.0))) c.loop-seat.invariant.all

pub returns-clause-durable : goal.returns-clause-durable
returns-clause-durable g c = λ told are_open. (c.loop-seat.invariant.durable told are_open).0
