-- The documents taken, and those that remain, are all.
use Rattle.std.proofs.Common.{◌≡◌, ◌≤◌, ◌+◌, ◌++◌, length}
use Rattle.std.specs.Vec.{vec_capacity, vec_len}
use Rattle.cursor_shelf.proofs.cursor.take_front.Given as goal

abbrev pub invariant-loop : goal.invariant-loop
invariant-loop l = record {
  moved : l.front.items ++ l.remaining.items ≡ l.fn.remaining.items;
  count : vec_len l.front ≡ l.counter;
  left : length l.remaining.items + l.counter ≡ length l.fn.remaining.items;
  room : l.count ≤ vec_capacity l.front;
}
