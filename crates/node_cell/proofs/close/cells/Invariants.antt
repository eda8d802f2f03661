use Rattle.std.proofs.Common.{◌≡◌, ◌+◌, ◌≤◌, []}
use Rattle.std.specs.Prelude.{vec_capacity, vec_len}
use Rattle.std.specs.VecDeque.{deque_len}
use Rattle.driver_steps.specs.Seats.{AreOpen}
use Rattle.node_cell.specs.Views.{nodes_held, numbered}
use Rattle.node_cell.proofs.close.cells.Given as goal

abbrev pub invariant-nodes : goal.invariant-nodes
invariant-nodes g l = record {
  table : l.pass.table_id ≡ g.K.Numbering.table;
  pass : l.pass.me ≡ (nodes_held (numbered l.at l.waiting.items), []);
  are_open : AreOpen g.L.Log.facts.is_open l.waiting.items;
  len : vec_len l.all + deque_len l.waiting ≡ vec_len l.fn.seats;
  place : l.at + deque_len l.waiting ≡ vec_len l.fn.seats;
  room : vec_len l.fn.seats ≤ vec_capacity l.all;
}

abbrev pub decreases-nodes : goal.decreases-nodes
decreases-nodes g l = deque_len l.waiting
