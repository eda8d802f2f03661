-- The statements that were visited were merged, and took room each.
use Rattle.std.proofs.Common.{◌≡◌, ◌≤◌, ◌+◌, if◌then◌else◌, length}
use Rattle.cluster_base.specs.declared.identity.Session.{Session}
use Rattle.history_model.specs.History.{StatementNumber}
use Rattle.history_model.specs.Merges.{seen_by_both}
use Rattle.history_model.specs.Notes.{same_session, seen}
use Rattle.statement_views.specs.Views.{session_view}
use Rattle.session_book.specs.Books.{room_in, seen_in}
use Rattle.session_book.specs.Records.{statement_notes}
use Rattle.session_book.proofs.book.Book.merge_session.Given as goal

abbrev pub invariant-loop-statement : goal.invariant-loop-statement
invariant-loop-statement l =
    (goal.iterator-loop-statement).can_next l.statement-iterator ×
    (goal.iterator-loop-statement).is_finite l.statement-iterator ×
    ((n : StatementNumber) → seen_in l.self n ≡ seen_by_both (seen_in l.fn.self n) (seen (statement_notes (session_view l.session) l.txn l.yielded) n)) ×
    ((t : Session) → room_in l.fn.self t ≤ room_in l.self t + (if same_session (session_view l.session) (session_view t) then length l.yielded else 0))
