-- What a merge leaves, and the room that it takes.
use Rattle.std.specs.Prelude.{◌≡◌, ◌≤◌, List}
use Rattle.cluster_base.specs.declared.identity.Session.{Session}
use Rattle.statement_views.specs.Views.{session_view}
use Rattle.statement_views.specs.declared.sessions.SessionRecord.{SessionRecord}
use Rattle.statement_views.specs.declared.sessions.Sessions.{Sessions}
use Rattle.history_model.specs.History.{StatementNumber}
use Rattle.history_model.specs.Notes.{seen}
use Rattle.history_model.specs.Merges.{seen_by_both}
use Rattle.session_book.specs.Records.{count_of, session_notes}
use Rattle.session_book.specs.Books.{room_in, seen_in}
use Rattle.session_book.specs.declared.book.Book.{Book}

-- there is room for all of these statements
abbrev pub HasRoomFor : Book → List SessionRecord → Type 0
HasRoomFor book records = (t : Session) → count_of (session_view t) records ≤ room_in book t

-- these sessions were merged into the first book, and the second is what came of it
abbrev pub IsMerged : Book → Sessions → Book → Type 0
IsMerged old other new = (n : StatementNumber) → seen_in new n ≡ seen_by_both (seen_in old n) (seen (session_notes other.sessions.items) n)
