use Rattle.std.proofs.Common.{◌≡◌, ◌+◌, ◌≤◌, map}
use Rattle.std.specs.Prelude.{vec_capacity, vec_len}
use Rattle.std.specs.VecDeque.{deque_len}
use Rattle.node_cell.specs.Deliveries.{AreKnown}
use Rattle.node_cell.specs.Standing.{AreAmong, IsPart}
use Rattle.node_cell.specs.Views.{IsFree}
use Rattle.node_cell.proofs.deliveries.learn_letters.Given as goal

abbrev pub invariant-letters : goal.invariant-letters
invariant-letters g l = record {
  table : l.pass.table_id ≡ g.K.Numbering.table;
  free : IsFree l.pass.me;
  held : l.pass.me.0.held ≡ l.fn.pass.me.0.held;
  kept : IsPart l.fn.pass.me.0 l.pass.me.0;
  known : AreKnown g.N.Node.meaning g.K.Numbering.routers (map (λ m. g.N.Mail.Mail.letter m) l.pass.me.0.seen) l.at l.all.items;
  among : AreAmong l.all.items l.fn.letters.items;
  left : AreAmong l.left.items l.fn.letters.items;
  room : vec_len l.all + deque_len l.left ≤ vec_capacity l.all;
}

abbrev pub decreases-letters : goal.decreases-letters
decreases-letters g l = deque_len l.left
