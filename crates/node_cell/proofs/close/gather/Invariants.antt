use Rattle.std.proofs.Common.{◌≡◌, ◌+◌, ◌≤◌, map}
use Rattle.std.specs.Prelude.{vec_capacity, vec_len}
use Rattle.std.specs.VecDeque.{deque_len}
use Rattle.node_cell.specs.Courses.{node_facts}
use Rattle.node_cell.specs.Standing.{AllSit}
use Rattle.node_cell.specs.Views.{IsFree}
use Rattle.node_cell.proofs.close.gather.Given as goal

abbrev pub invariant-nodes : goal.invariant-nodes
invariant-nodes g l = record {
  table : l.pass.table_id ≡ g.K.Numbering.table;
  free : IsFree l.pass.me;
  len : vec_len l.ended + deque_len l.waiting ≡ vec_len l.fn.cells;
  place : l.at ≡ vec_len l.ended;
  room : vec_len l.fn.cells ≤ vec_capacity l.ended;
  sit : AllSit (node_facts g.N.Node.state g.N.Node.steps (λ m. g.N.Mail.Mail.letter m) g.N.Node.meaning g.L.Log.facts)
      g.K.Numbering.routers (map (λ m. g.N.Mail.Mail.letter m) l.pass.me.0.seen) 0 l.pass.me.0.held l.ended.items;
}

abbrev pub decreases-nodes : goal.decreases-nodes
decreases-nodes g l = deque_len l.waiting
