use Rattle.std.proofs.Common.{◌≡◌, ◌+◌, ◌<◌, ◌^◌, map}
use Rattle.std.specs.Prelude.{vec_capacity, vec_len}
use Rattle.std.specs.VecDeque.{deque_len}
use Rattle.node_cell.specs.Deliveries.{AreAdded, AreSeenFrom}
use Rattle.node_cell.specs.Standing.{AreAmong}
use Rattle.node_cell.proofs.deliveries.add_steps.Given as goal

abbrev pub invariant-parts : goal.invariant-parts
invariant-parts g l = record {
  table : l.pass.table_id ≡ g.K.Numbering.table;
  pass : l.pass.me ≡ l.fn.pass.me;
  seen : AreSeenFrom (λ m. g.N.Mail.Mail.letter m) l.fn.pass.me.0 l.number l.at l.left.items;
  some : AreAmong (map (λ p. p.input.value) l.left.items) (map (λ p. p.input.value) l.fn.parts.items);
  added : AreAdded (map (λ p. p.input.value) l.fn.parts.items) l.fn.steps.items l.steps.items;
  fits : l.number < 2 ^ 64;
  len : vec_len l.steps + deque_len l.left ≡ vec_len l.fn.steps + vec_len l.fn.parts;
  capacity : vec_capacity l.steps ≡ vec_capacity l.fn.steps;
}

abbrev pub decreases-parts : goal.decreases-parts
decreases-parts g l = deque_len l.left
