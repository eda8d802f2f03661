use Rattle.std.proofs.Common.{◌≡◌, ◌∷◌, ◌∙◌, [], ℕ, List, length, ap, arith}
use Rattle.std.specs.Vec.Iter.{into_iter_items}
use Rattle.journal_frames.specs.Views.{JournalView}
use Rattle.cluster_service.specs.Openings.{disk_facts}
use Rattle.cluster_service.proofs.OpenedUpTo.{up_to_left, up_to_opened, up_to_start, up_to_stopped}
use Rattle.cluster_service.proofs.disks.open_some.Goals as goal

pub loop-disk-init : goal.loop-disk-init
loop-disk-init g c =
    let all : into_iter_items c.into_iter-disk-iterator.result ≡ c.args.disks.items = c.into_iter-disk-iterator.ensures.into_iter_gives.0 in
    let no_journal : c.args.journals.now.items ≡ [] = c.requires.journals in
    let no_found : c.args.found.now.items ≡ [] = c.requires.found in
    let no_disk : c.args.unopened.now.items ≡ [] = c.requires.unopened in
    record {
      so_far = rw (all, c.requires.journals, c.requires.found, c.requires.unopened) (up_to_start
          (disk_facts g.D.Disk.tells g.D.Disk.content g.D.Disk.may_leave g.D.Disk.moment g.D.Disk.left_at g.D.Disk.place g.D.Disk.fault_count)
          c.args.disks.items);
      count = omega (
        arith,
        ap (λ (l : List g.row.D.Denot). length l) all,
        c.args.disks.ok,
        c.args.journals.now.ok,
        c.args.unopened.now.ok,
        ap (λ (l : List (JournalView g.row.D.Denot)). length l) no_journal,
        ap (λ (l : List g.row.D.Denot). length l) no_disk,
      );
      found_count = omega (
        arith,
        c.args.journals.now.ok,
        c.args.found.now.ok,
        ap (λ (l : List (JournalView g.row.D.Denot)). length l) no_journal,
        ap (λ (l : List (List (List ℕ))). length l) no_found,
      );
      room = c.requires.room;
      found_room = c.requires.found_room;
      unopened_room = c.requires.unopened_room;
      left = c.into_iter-disk-iterator.ensures.into_iter_gives.1 ∙ omega (arith, ap (λ (l : List g.row.D.Denot). length l) all, c.args.disks.ok);
    }

pub loop-disk-preserved-in-Some-stopped : goal.loop-disk-preserved-in-Some-stopped
loop-disk-preserved-in-Some-stopped g c =
    let first : into_iter_items c.loop-disk.disk-iterator ≡ c.in-Some.disk ∷ (into_iter_items c.next.new.self) = c.in-Some.ensures.steps.0 in
    let short = ap (λ (l : List g.row.D.Denot). length l) first in
    record {
      so_far = rw (c.push_reserved.ensures.items, c.in-Some-stopped.is)
          (up_to_left
          (disk_facts g.D.Disk.tells g.D.Disk.content g.D.Disk.may_leave g.D.Disk.moment g.D.Disk.left_at g.D.Disk.place g.D.Disk.fault_count)
          c.args.disks.items c.in-Some.disk (into_iter_items c.next.new.self) c.loop-disk.journals.items c.loop-disk.found.items
          c.loop-disk.unopened.items _
          (rw (first, c.in-Some-stopped.is) at c.loop-disk.invariant.so_far));
      count = omega (arith, short, c.loop-disk.invariant.count, c.push_reserved.ensures.len);
      found_count = c.loop-disk.invariant.found_count;
      room = c.loop-disk.invariant.room;
      found_room = c.loop-disk.invariant.found_room;
      unopened_room = omega (arith, c.loop-disk.invariant.unopened_room, c.push_reserved.ensures.capacity);
      left = omega (arith, short, c.loop-disk.invariant.left, c.in-Some.ensures.steps.1);
    }

pub loop-disk-preserved-in-Ok : goal.loop-disk-preserved-in-Ok
loop-disk-preserved-in-Ok g c =
    let first : into_iter_items c.loop-disk.disk-iterator ≡ c.in-Some.disk ∷ (into_iter_items c.next.new.self) = c.in-Some.ensures.steps.0 in
    let short = ap (λ (l : List g.row.D.Denot). length l) first in
    record {
      so_far = rw (c.push_reserved-in-Ok.ensures.items, c.push_reserved-in-Ok-2.ensures.items, c.in-None-stopped.is)
          (up_to_opened
          (disk_facts g.D.Disk.tells g.D.Disk.content g.D.Disk.may_leave g.D.Disk.moment g.D.Disk.left_at g.D.Disk.place g.D.Disk.fault_count)
          c.args.disks.items c.in-Some.disk (into_iter_items c.next.new.self) c.loop-disk.journals.items c.loop-disk.found.items
          c.loop-disk.unopened.items
          c.in-Ok.journal c.in-Ok.records (rw (first, c.in-None-stopped.is) at c.loop-disk.invariant.so_far) c.in-Ok.ensures.opened);
      count = omega (arith, short, c.loop-disk.invariant.count, c.push_reserved-in-Ok.ensures.len);
      found_count = omega (arith, c.loop-disk.invariant.found_count, c.push_reserved-in-Ok.ensures.len, c.push_reserved-in-Ok-2.ensures.len);
      room = omega (arith, c.loop-disk.invariant.room, c.push_reserved-in-Ok.ensures.capacity);
      found_room = omega (arith, c.loop-disk.invariant.found_room, c.push_reserved-in-Ok-2.ensures.capacity);
      unopened_room = c.loop-disk.invariant.unopened_room;
      left = omega (arith, short, c.loop-disk.invariant.left, c.in-Some.ensures.steps.1);
    }

pub loop-disk-preserved : goal.loop-disk-preserved
loop-disk-preserved g c =
    let first : into_iter_items c.loop-disk.disk-iterator ≡ c.in-Some.disk ∷ (into_iter_items c.next.new.self) = c.in-Some.ensures.steps.0 in
    let short = ap (λ (l : List g.row.D.Denot). length l) first in
    record {
      so_far = rw c.push_reserved-in-Err.ensures.items
          (up_to_stopped
          (disk_facts g.D.Disk.tells g.D.Disk.content g.D.Disk.may_leave g.D.Disk.moment g.D.Disk.left_at g.D.Disk.place g.D.Disk.fault_count)
          c.args.disks.items c.in-Some.disk (into_iter_items c.next.new.self) c.loop-disk.journals.items c.loop-disk.found.items
          c.loop-disk.unopened.items
          c.in-Err.u.disk c.in-Err.u.status (rw (first, c.in-None-stopped.is) at c.loop-disk.invariant.so_far) c.in-Err.ensures.unopened);
      count = omega (arith, short, c.loop-disk.invariant.count, c.push_reserved-in-Err.ensures.len);
      found_count = c.loop-disk.invariant.found_count;
      room = c.loop-disk.invariant.room;
      found_room = c.loop-disk.invariant.found_room;
      unopened_room = omega (arith, c.loop-disk.invariant.unopened_room, c.push_reserved-in-Err.ensures.capacity);
      left = omega (arith, short, c.loop-disk.invariant.left, c.in-Some.ensures.steps.1);
    }
