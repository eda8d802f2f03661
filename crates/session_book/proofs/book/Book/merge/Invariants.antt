-- The sessions that were visited were merged, and took room for each statement.
use Rattle.std.proofs.Common.{◌≡◌, ◌≤◌, ◌+◌}
use Rattle.cluster_base.specs.declared.identity.Session.{Session}
use Rattle.history_model.specs.History.{StatementNumber}
use Rattle.history_model.specs.Merges.{seen_by_both}
use Rattle.history_model.specs.Notes.{seen}
use Rattle.statement_views.specs.Views.{session_view}
use Rattle.session_book.specs.Books.{room_in, seen_in}
use Rattle.session_book.specs.Records.{count_of, session_notes}
use Rattle.session_book.proofs.book.Book.merge.Given as goal

abbrev pub invariant-loop-record : goal.invariant-loop-record
invariant-loop-record l =
    (goal.iterator-loop-record).can_next l.record-iterator ×
    (goal.iterator-loop-record).is_finite l.record-iterator ×
    ((n : StatementNumber) → seen_in l.self n ≡ seen_by_both (seen_in l.fn.self n) (seen (session_notes l.yielded) n)) ×
    ((t : Session) → room_in l.fn.self t ≤ room_in l.self t + count_of (session_view t) l.yielded)
