-- What the book returns, by what it stores of each session.
use Rattle.std.specs.Prelude.{◌≡◌, ℕ, Bool, true, false, List, Option, Some, None}
use Rattle.cluster_base.specs.declared.identity.Session.{Session}
use Rattle.cluster_base.specs.declared.identity.Stmt.{Stmt}
use Rattle.cluster_base.specs.declared.time.Time.{Time}
use Rattle.value_compare.specs.declared.words.Reply.{Reply}
use Rattle.history_model.specs.History as history
use Rattle.history_model.specs.History.{StatementNumber}
use Rattle.history_model.specs.Notes as notes
use Rattle.history_model.specs.Notes.{Note, new_statement, done_before, older_than, seen}
use Rattle.statement_views.specs.Views.{session_view, number_view}
use Rattle.session_book.specs.Statements.{Statements, seen_among}
use Rattle.session_book.specs.Places.{place_of, statements_at}
use Rattle.session_book.specs.declared.book.Seen.{Seen}
use Rattle.session_book.specs.declared.book.Seen.TheVariants.{New, Done, Older}
use Rattle.session_book.specs.declared.book.Book.{Book}

abbrev pub seen_view : Seen → notes.Seen Reply
seen_view New = new_statement
seen_view (Done time reply) = done_before time.0 reply.now
seen_view (Older transaction) = older_than transaction

abbrev pub is_new : notes.Seen Reply → Bool
is_new new_statement = true
is_new seen = false

abbrev pub note_view : Stmt → Time → Reply → Note Reply
note_view s time reply = record { number = number_view s; time = time.0; told = reply }

-- what is stored of a session
abbrev pub kept_of : Book → history.Session → Option Statements
kept_of book session = statements_at book.kept.items (place_of book.places.entries session)

abbrev pub seen_of : Option Statements → StatementNumber → notes.Seen Reply
seen_of None number = new_statement
seen_of (Some kept) number = seen_among kept number.transaction number.index

abbrev pub room_of : Option Statements → ℕ
room_of None = 0
room_of (Some kept) = kept.room

-- what a number is against what was noted
unfoldable pub seen_in : Book → StatementNumber → notes.Seen Reply
seen_in book number = seen_of (kept_of book number.session) number

-- for how many more statements of a session there is room
unfoldable pub room_in : Book → Session → ℕ
room_in book session = room_of (kept_of book (session_view session))

-- these were noted, in that order
abbrev pub NotesAre : Book → List (Note Reply) → Type 0
NotesAre book notes = (number : StatementNumber) → seen_in book number ≡ seen notes number
