use Rattle.std.proofs.Common.{◌≡◌, ◌≤◌, ◌+◌, ◌++◌, IsTrue, length}
use Rattle.std.specs.Prelude.{vec_capacity, vec_len}
use Rattle.std.specs.List.{AllByRecursion}
use Rattle.std.specs.Vec.Iter.{into_iter_items, into_iter_len}
use Rattle.cluster_service.specs.OpenJournals.{AreAllOpen, IsDurable, disks_of}
use Rattle.cluster_service.proofs.journals.close_all.Given as goal

-- the disks of the journals that were closed, and those of the journals that are left
abbrev pub invariant-loop-journal : goal.invariant-loop-journal
invariant-loop-journal g l = record {
  all : l.back.items ++ disks_of (into_iter_items l.journal-iterator) ≡ disks_of l.fn.journals.items;
  durable : IsTrue g.D.Disk.tells → AreAllOpen l.fn.journals.items
      → AllByRecursion (IsDurable g.D.Disk.content g.D.Disk.may_leave) l.back.items × AreAllOpen (into_iter_items l.journal-iterator);
  room : vec_len l.back + length (into_iter_items l.journal-iterator) ≤ vec_capacity l.back;
  capacity : vec_capacity l.back ≡ vec_capacity l.fn.back;
  left : into_iter_len l.journal-iterator ≡ length (into_iter_items l.journal-iterator);
}
