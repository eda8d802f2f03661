use Rattle.std.proofs.Common.{◌+◌, ◌≤◌, map}
use Rattle.std.specs.Prelude.{vec_capacity, vec_len}
use Rattle.std.specs.List.{AllByRecursion}
use Rattle.std.specs.VecDeque.{deque_len}
use Rattle.node_cell.specs.Deliveries.{Delivers}
use Rattle.node_cell.specs.Standing.{AreAmong}
use Rattle.node_cell.proofs.deliveries.prepare_all.Given as goal

abbrev pub invariant-letters : goal.invariant-letters
invariant-letters g l = record {
  left : AreAmong (map (λ m. g.N.Mail.Mail.letter m) l.letters.items) (map (λ m. g.N.Mail.Mail.letter m) l.fn.letters.items);
  prepared : AllByRecursion (λ i. Delivers g.N.Node.meaning (map (λ m. g.N.Mail.Mail.letter m) l.fn.letters.items) i) l.all.items;
  room : vec_len l.all + deque_len l.letters ≤ vec_capacity l.all;
}

abbrev pub decreases-letters : goal.decreases-letters
decreases-letters g l = deque_len l.letters
