-- As many documents as were counted are removed.
use Rattle.std.proofs.Common.{◌≡◌, drop}
use Rattle.cursor_shelf.proofs.cursor.drop_front.Given as goal

abbrev pub invariant-loop : goal.invariant-loop
invariant-loop l = l.remaining.items ≡ drop l.counter l.fn.remaining.items
