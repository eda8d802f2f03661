-- What was counted has room, and what is left makes up the rest.
use Rattle.std.proofs.Common.{◌≡◌, ◌≤◌, ◌+◌, drop}
use Rattle.cluster_base.specs.declared.identity.Session.{Session}
use Rattle.history_model.specs.History as history
use Rattle.history_model.specs.History.{StatementNumber}
use Rattle.statement_views.specs.Views.{session_view}
use Rattle.session_book.specs.Books.{room_in, seen_in}
use Rattle.session_book.specs.Records.{count_of, counted}
use Rattle.session_book.proofs.book.Book.reserve_merge.Given as goal

abbrev pub invariant-loop-record : goal.invariant-loop-record
invariant-loop-record l = record {
  whole : l.record-items ≡ l.other.sessions.items;
  counts : (x : history.Session) → counted l.counts.entries x + count_of x (drop l.record-index l.record-items) ≡ count_of x l.record-items;
  room : (t : Session) → counted l.counts.entries (session_view t) ≤ room_in l.self t;
  others : (t : Session) → room_in l.fn.self t ≤ room_in l.self t;
  same : (n : StatementNumber) → seen_in l.self n ≡ seen_in l.fn.self n;
}
