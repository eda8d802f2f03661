-- The nodes before what is left are opened, and there is room for the others.
use Rattle.std.proofs.Common.{◌≡◌, ◌≤◌, ◌+◌, ◌-◌, length, map}
use Rattle.std.specs.Prelude.{vec_capacity, vec_len}
use Rattle.std.specs.List.{AllByRecursion}
use Rattle.std.specs.Vec.Iter.{into_iter_items, into_iter_len}
use Rattle.any_node.specs.Kinds.{state_of, steps_of}
use Rattle.node_open.proofs.Opened.{OpenedUpTo}
use Rattle.node_open.proofs.nodes.open_nodes.Given as goal

abbrev pub invariant-loop-records : goal.invariant-loop-records
invariant-loop-records l = record {
  so_far : OpenedUpTo (l.fn.shards - 1) l.fn.found.items (into_iter_items l.records-iterator) l.me (map state_of l.nodes.items);
  new : AllByRecursion (λ node. steps_of node ≡ 0) l.nodes.items;
  count : l.me + length (into_iter_items l.records-iterator) ≡ vec_len l.fn.found;
  len : vec_len l.nodes ≡ l.me;
  some : 1 ≤ l.fn.shards;
  few : vec_len l.fn.found ≤ 64;
  room : vec_len l.fn.found ≤ vec_capacity l.nodes;
  left : into_iter_len l.records-iterator ≡ length (into_iter_items l.records-iterator);
}
