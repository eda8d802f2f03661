use Rattle.std.proofs.Common.{◌≡◌, ◌≤◌, ◌+◌, ◌++◌, IsTrue, length, map}
use Rattle.std.specs.Prelude.{vec_capacity, vec_len}
use Rattle.std.specs.List.{AllByRecursion}
use Rattle.std.specs.Vec.Iter.{into_iter_items, into_iter_len}
use Rattle.cluster_service.specs.OpenJournals.{IsDurable}
use Rattle.cluster_service.proofs.threads.take_placed.Given as goal

-- the disks that were taken, and those of the nodes that are left
abbrev pub invariant-loop-placed : goal.invariant-loop-placed
invariant-loop-placed g l = record {
  all : l.back.items ++ map (λ p. p.seat.log.disk) (into_iter_items l.placed-iterator) ≡ map (λ p. p.seat.log.disk) l.fn.nodes.items;
  durable : IsTrue g.D.Disk.tells → AllByRecursion (λ p. IsTrue p.seat.log.is_open) l.fn.nodes.items
      → AllByRecursion (IsDurable g.D.Disk.content g.D.Disk.may_leave) l.back.items
      × AllByRecursion (λ p. IsTrue p.seat.log.is_open) (into_iter_items l.placed-iterator);
  room : vec_len l.back + length (into_iter_items l.placed-iterator) ≤ vec_capacity l.back;
  left : into_iter_len l.placed-iterator ≡ length (into_iter_items l.placed-iterator);
}
