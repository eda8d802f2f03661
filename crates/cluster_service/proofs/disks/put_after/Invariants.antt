use Rattle.std.proofs.Common.{◌≡◌, ◌≤◌, ◌+◌, ◌++◌, length}
use Rattle.std.specs.Prelude.{vec_capacity, vec_len}
use Rattle.std.specs.Vec.Iter.{into_iter_items, into_iter_len}
use Rattle.cluster_service.proofs.disks.put_after.Given as goal

-- with those that are left they are all
abbrev pub invariant-loop-disk : goal.invariant-loop-disk
invariant-loop-disk g l = record {
  all : l.all.items ++ into_iter_items l.disk-iterator ≡ l.fn.all.items ++ l.fn.disks.items;
  room : vec_len l.all + length (into_iter_items l.disk-iterator) ≤ vec_capacity l.all;
  left : into_iter_len l.disk-iterator ≡ length (into_iter_items l.disk-iterator);
}
