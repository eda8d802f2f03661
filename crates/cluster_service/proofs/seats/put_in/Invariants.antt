use Rattle.std.proofs.Common.{◌≡◌, ◌≤◌, ◌+◌, ◌++◌, length}
use Rattle.std.specs.Prelude.{vec_capacity, vec_len}
use Rattle.std.specs.Vec.Iter.{into_iter_items, into_iter_len}
use Rattle.cluster_service.specs.Seats.{seats_of}
use Rattle.cluster_service.proofs.seats.put_in.Given as goal

-- the seats that were made, and those of the nodes and journals that are left
abbrev pub invariant-loop-log : goal.invariant-loop-log
invariant-loop-log g l = record {
  all : l.seats.items ++ seats_of (into_iter_items l.nodes) (into_iter_items l.log-iterator) ≡ seats_of l.fn.nodes.items l.fn.journals.items;
  as_many : length (into_iter_items l.nodes) ≡ length (into_iter_items l.log-iterator);
  count : vec_len l.seats + length (into_iter_items l.log-iterator) ≡ vec_len l.fn.journals;
  room : vec_len l.fn.journals ≤ vec_capacity l.seats;
  left : into_iter_len l.log-iterator ≡ length (into_iter_items l.log-iterator);
  nodes_left : into_iter_len l.nodes ≡ length (into_iter_items l.nodes);
}
