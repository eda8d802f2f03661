-- Numbered statements (MongoDB manual, "Retryable Writes", "Server Sessions"): what was noted of those that were done, and the state of a number with respect
-- to these notes. The reply to a statement may be of any type. Own: notes are by number alone, over all namespaces, and they are kept for good.
use Rattle.std.specs.Prelude.{ℕ, ℤ, List, [], ◌∷◌, map, Bool, true, false, ◌&&◌, Option, Some, None, ◌==◌, int_lt, if◌then◌else◌}
use Rattle.std.specs.Int.{int_max}
use Rattle.std.specs.Option.{unwrap_or}
use Rattle.std.specs.Ordering.{int_eq}
use Rattle.std.specs.Str.{bytes_eq}
use Rattle.history_model.specs.History.{Session, client_session, router_session, StatementNumber, Outcome, Entry}

-- a statement that was done: its number, the time of its entry, and its reply
pub record Note (A : Type 0) : Type 0 where
  pub number : StatementNumber
  pub time : ℕ
  pub told : A

-- the state of a number
pub data Seen (A : Type 0) : Type 0 where
  -- no statement was done under it, nor under a greater transaction of its session
  new_statement : Seen A
  -- a retry: it was done at that time, with that reply
  done_before : ℕ → A → Seen A
  -- its session has that greater transaction
  older_than : ℤ → Seen A

abbrev pub same_session : Session → Session → Bool
same_session (client_session a) (client_session b) = bytes_eq a b
same_session (router_session node life request) (router_session other_node other_life other_request) =
    node == other_node && (life == other_life && request == other_request)
same_session a b = false

abbrev pub same_number : StatementNumber → StatementNumber → Bool
same_number a b = same_session a.session b.session && (int_eq a.transaction b.transaction && a.index == b.index)

module _ {A : Type 0} where
  -- the greatest transaction of a session
  abbrev pub greatest_of : Session → List (Note A) → Option ℤ
  greatest_of session [] = None
  greatest_of session (note ∷ notes) =
      if same_session note.number.session session then Some (int_max note.number.transaction (unwrap_or (greatest_of session notes) note.number.transaction))
      else greatest_of session notes

  -- the first note of a number
  abbrev pub noted : StatementNumber → List (Note A) → Option (Note A)
  noted number [] = None
  noted number (note ∷ notes) = if same_number note.number number then Some note else noted number notes

  -- a retry gets the same reply, unless its session has a greater transaction
  abbrev pub seen_beside : StatementNumber → Option ℤ → Option (Note A) → Seen A
  seen_beside number None found = new_statement
  seen_beside number (Some greatest) None = if int_lt number.transaction greatest then older_than greatest else new_statement
  seen_beside number (Some greatest) (Some note) = if int_lt number.transaction greatest then older_than greatest else done_before note.time note.told

  -- the state of a number with respect to the notes
  abbrev pub seen : List (Note A) → StatementNumber → Seen A
  seen notes number = seen_beside number (greatest_of number.session notes) (noted number notes)

  -- the state of a number after one more note, of a number that was new, given its state before
  abbrev pub seen_with : Note A → StatementNumber → Seen A → Seen A
  seen_with note number was =
      if same_session note.number.session number.session then
      (if int_lt number.transaction note.number.transaction then older_than note.number.transaction
      else if same_number note.number number then done_before note.time note.told
      else was)
      else was

-- the notes of entries: the outcome of each, and its time
abbrev pub notes_of : List Entry → List (Note Outcome)
notes_of entries = map (λ e. record { number = e.number; time = e.time; told = e.outcome }) entries
