-- The notes that the records of sessions are, and how many of a session.
use Rattle.std.specs.Prelude.{◌+◌, ℕ, ℤ, List, [], ◌∷◌, ◌++◌, length, map, if◌then◌else◌}
use Rattle.std.specs.Option.{unwrap_or}
use Rattle.cluster_base.specs.declared.identity.Session.{Session}
use Rattle.value_compare.specs.declared.words.Reply.{Reply}
use Rattle.history_model.specs.History as history
use Rattle.history_model.specs.Notes.{Note, same_session}
use Rattle.statement_views.specs.Views.{session_view}
use Rattle.statement_views.specs.declared.sessions.StatementRecord.{StatementRecord}
use Rattle.statement_views.specs.declared.sessions.SessionRecord.{SessionRecord}
use Rattle.session_book.specs.Places.{place_of}

-- a statement of that session and transaction, as a note
abbrev pub statement_note : history.Session → ℤ → StatementRecord → Note Reply
statement_note session transaction s =
    record { number = record { session = session; transaction = transaction; index = s.index }; time = s.time.0; told = s.reply }

abbrev pub statement_notes : history.Session → ℤ → List StatementRecord → List (Note Reply)
statement_notes session transaction statements = map (statement_note session transaction) statements

-- the notes of each session, in order
abbrev pub session_notes : List SessionRecord → List (Note Reply)
session_notes [] = []
session_notes (r ∷ records) = statement_notes (session_view r.session) r.txn r.statements.items ++ session_notes records

-- how many statements of a session there are
abbrev pub count_of : history.Session → List SessionRecord → ℕ
count_of session [] = 0
count_of session (r ∷ records) = (if same_session (session_view r.session) session then length r.statements.items else 0) + count_of session records

-- how many of a session were counted
abbrev pub counted : List (Session × ℕ) → history.Session → ℕ
counted counts session = unwrap_or (place_of counts session) 0
