-- The notes of the sessions that were visited, and those of the sessions that are left, which come after them.
use Rattle.std.proofs.Common.{◌≡◌, ◌++◌}
use Rattle.session_book.specs.Records.{session_notes}
use Rattle.std.specs.Map.{keys_of}
use Rattle.session_book.proofs.Floors.{floor_notes}
use Rattle.session_book.proofs.Order.{Ordered}
use Rattle.session_book.proofs.book.Book.floors.Given as goal

abbrev pub invariant-loop-session : goal.invariant-loop-session
invariant-loop-session l = record {
  order : Ordered l.sessions.items (keys_of l.session-iterator);
  notes : session_notes l.sessions.items ++ floor_notes l.self.kept.items l.session-iterator ≡ floor_notes l.self.kept.items l.self.places.entries;
}
