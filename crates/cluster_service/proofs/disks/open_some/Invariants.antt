use Rattle.std.proofs.Common.{◌≡◌, ◌≤◌, ◌+◌, length}
use Rattle.std.specs.Prelude.{vec_capacity, vec_len}
use Rattle.std.specs.Vec.Iter.{into_iter_items, into_iter_len}
use Rattle.cluster_service.specs.Openings.{AreOpenedUpTo, disk_facts}
use Rattle.cluster_service.proofs.disks.open_some.Given as goal

-- those before what is left were opened, or left alone after one that was not
abbrev pub invariant-loop-disk : goal.invariant-loop-disk
invariant-loop-disk g l = record {
  so_far : AreOpenedUpTo
      (disk_facts g.D.Disk.tells g.D.Disk.content g.D.Disk.may_leave g.D.Disk.moment g.D.Disk.left_at g.D.Disk.place g.D.Disk.fault_count)
      l.fn.disks.items (into_iter_items l.disk-iterator) l.stopped l.journals.items l.found.items l.unopened.items;
  count : (vec_len l.journals + vec_len l.unopened) + length (into_iter_items l.disk-iterator) ≤ vec_len l.fn.disks;
  found_count : vec_len l.found ≡ vec_len l.journals;
  room : vec_len l.fn.disks ≤ vec_capacity l.journals;
  found_room : vec_len l.fn.disks ≤ vec_capacity l.found;
  unopened_room : vec_len l.fn.disks ≤ vec_capacity l.unopened;
  left : into_iter_len l.disk-iterator ≡ length (into_iter_items l.disk-iterator);
}
