use Rattle.std.proofs.Common.{◌≡◌, ◌≤◌, ◌+◌, ◌++◌, IsTrue, length, map}
use Rattle.std.specs.Prelude.{vec_capacity, vec_len}
use Rattle.std.specs.List.{AllByRecursion}
use Rattle.std.specs.Vec.Iter.{into_iter_items, into_iter_len}
use Rattle.cluster_service.specs.OpenJournals.{IsDurable}
use Rattle.cluster_service.proofs.seats.take_disks.Given as goal

-- the disks that were taken, and those of the seats that are left
abbrev pub invariant-loop-seat : goal.invariant-loop-seat
invariant-loop-seat g l = record {
  all : l.back.items ++ map (λ s. s.log.disk) (into_iter_items l.seat-iterator) ≡ map (λ s. s.log.disk) l.fn.seats.items;
  durable : IsTrue g.D.Disk.tells → AllByRecursion (λ s. IsTrue s.log.is_open) l.fn.seats.items
      → AllByRecursion (IsDurable g.D.Disk.content g.D.Disk.may_leave) l.back.items
      × AllByRecursion (λ s. IsTrue s.log.is_open) (into_iter_items l.seat-iterator);
  room : vec_len l.back + length (into_iter_items l.seat-iterator) ≤ vec_capacity l.back;
  left : into_iter_len l.seat-iterator ≡ length (into_iter_items l.seat-iterator);
}
