use Rattle.std.proofs.Common.{◌≡◌, ◌∷◌, ◌∙◌, List, length, sym, ap, arith}
use Rattle.std.specs.Vec.Iter.{into_iter_items}
use Rattle.journal_frames.specs.Views.{JournalView}
use Rattle.cluster_service.specs.OpenJournals.{IsDurable, disks_of}
use Rattle.cluster_service.proofs.Lefts.{all_after, no_more, none_left, one_less}
use Rattle.cluster_service.proofs.journals.close_all.Goals as goal

pub loop-journal-preserved : goal.loop-journal-preserved
loop-journal-preserved g c =
    let at = c.loop-journal in
    let first : into_iter_items at.journal-iterator ≡ c.in-Some.journal ∷ into_iter_items c.next.new.self = c.in-Some.ensures.steps.0 in
    let short = ap (λ (l : List (JournalView g.row.D.Denot)). length l) first in
    record {
      all = one_less at.back.items c.push_reserved.new.self.items (disks_of (into_iter_items at.journal-iterator)) (disks_of (into_iter_items c.next.new.self)) _ c.in-Some.journal.disk
          (rw (← c.close_one.ensures.disk) c.push_reserved.ensures.items) (ap disks_of first) at.invariant.all;
      durable = λ told are_open.
          let was = at.invariant.durable told are_open in
          let left = rw first at was.1 in (
            all_after (IsDurable g.D.Disk.content g.D.Disk.may_leave) at.back.items c.push_reserved.new.self.items c.close_one.result c.push_reserved.ensures.items was.0
                (c.close_one.ensures.durable left.0 told),
            left.1,
          );
      room = omega (arith, short, at.invariant.room, c.push_reserved.ensures.len, c.push_reserved.ensures.capacity);
      capacity = c.push_reserved.ensures.capacity ∙ at.invariant.capacity;
      left = omega (arith, short, at.invariant.left, c.in-Some.ensures.steps.1);
    }

pub returns-clause-disks : goal.returns-clause-disks
returns-clause-disks g c =
    no_more c.loop-journal.back.items (disks_of (into_iter_items c.loop-journal.journal-iterator)) _
    (ap disks_of (none_left (into_iter_items c.loop-journal.journal-iterator) (sym c.loop-journal.invariant.left ∙ c.in-None.ensures.steps.0))) c.loop-journal.invariant.all

pub returns-clause-durable : goal.returns-clause-durable
returns-clause-durable g c = λ told are_open. (c.loop-journal.invariant.durable told are_open).0
