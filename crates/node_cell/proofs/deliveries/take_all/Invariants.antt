use Rattle.std.proofs.Common.{◌≡◌, ◌+◌, ◌≤◌, map}
use Rattle.std.specs.Prelude.{vec_capacity, vec_len}
use Rattle.std.specs.VecDeque.{deque_len}
use Rattle.node_cell.specs.Courses.{node_facts}
use Rattle.node_cell.specs.Deliveries.{AreKnown, AreStepsOn}
use Rattle.node_cell.specs.Standing.{AreAmong, Sits}
use Rattle.node_cell.specs.Views.{IsFree}
use Rattle.node_cell.proofs.deliveries.take_all.Given as goal

abbrev pub invariant-groups : goal.invariant-groups
invariant-groups g l = record {
  table : l.pass.table_id ≡ g.K.Numbering.table;
  free : IsFree l.pass.me;
  sits : Sits (node_facts g.N.Node.state g.N.Node.steps (λ m. g.N.Mail.Mail.letter m) g.N.Node.meaning g.L.Log.facts) g.K.Numbering.routers l.placed l.pass.me.0;
  place : l.placed.at ≡ l.fn.placed.at;
  known : AreKnown g.N.Node.meaning g.K.Numbering.routers (map (λ m. g.N.Mail.Mail.letter m) l.pass.me.0.seen) l.placed.at l.left.items;
  some : AreAmong l.left.items l.fn.inputs.items;
  room : vec_len l.steps + deque_len l.left ≤ vec_capacity l.steps;
  taken : AreStepsOn l.fn.inputs.items l.steps.items;
}

abbrev pub decreases-groups : goal.decreases-groups
decreases-groups g l = deque_len l.left
