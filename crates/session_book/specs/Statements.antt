-- What is stored of one session (MongoDB manual, "Server Sessions"): of its greatest transaction the statements that were done.
use Rattle.std.specs.Prelude.{◌≡◌, ◌≢◌, ◌+◌, ◌<◌, ◌≤◌, ℕ, ℤ, List, [], ◌∷◌, length, slice_index_or, Bool, true, false, ◌&&◌, ◌==◌, Option, Some, None, int_lt, if◌then◌else◌}
use Rattle.std.specs.Ordering.{int_eq}
use Rattle.history_model.specs.Notes.{Seen, new_statement, done_before, older_than}
use Rattle.value_compare.specs.declared.words.Reply.{Reply}
use Rattle.statement_views.specs.declared.sessions.StatementRecord.{StatementRecord}

-- the greatest transaction, its statements by their index, and for how many more there is room
pub record Statements : Type 0 where
  pub transaction : ℤ
  pub notes : List StatementRecord
  pub room : ℕ

-- the indexes rise
abbrev pub IsRising : List StatementRecord → Type 0
IsRising notes = (i j : ℕ) (d : StatementRecord) → i < j → j < length notes → (slice_index_or notes i d).index < (slice_index_or notes j d).index

abbrev pub are_some : List StatementRecord → Bool
are_some [] = false
are_some (noted ∷ notes) = true

-- the first statement, and the rest after it
abbrev pub notes_with : Option StatementRecord → List StatementRecord → List StatementRecord
notes_with None rest = rest
notes_with (Some first) rest = first ∷ rest

-- where there is no first statement, there is room for it
abbrev pub room_with : Option StatementRecord → ℕ → ℕ
room_with None room = room + 1
room_with (Some first) room = room

-- the indexes rise, and after no first statement there is none
pub record IsWhole (first : Option StatementRecord) (rest : List StatementRecord) : Type 0 where
  pub rising : IsRising (notes_with first rest)
  pub none : first ≡ None → rest ≡ []

-- the first of that index
abbrev pub with_index : ℕ → List StatementRecord → Option StatementRecord
with_index index [] = None
with_index index (noted ∷ notes) = if noted.index == index then Some noted else with_index index notes

-- the first of that index is at that place
pub record Holds (notes : List StatementRecord) (index place : ℕ) : Type 0 where
  pub in_range : place < length notes
  pub first : (d : StatementRecord) → with_index index notes ≡ Some (slice_index_or notes place d)
  pub some : with_index index notes ≢ None

-- a statement of that index would go to that place: lesser ones before it, and greater ones from it on
pub record IsGapFor (notes : List StatementRecord) (index place : ℕ) : Type 0 where
  pub in_range : place ≤ length notes
  pub lesser : (j : ℕ) (d : StatementRecord) → j < place → (slice_index_or notes j d).index < index
  pub greater : (j : ℕ) (d : StatementRecord) → place ≤ j → j < length notes → index < (slice_index_or notes j d).index

abbrev pub seen_as : Option StatementRecord → Seen Reply
seen_as None = new_statement
seen_as (Some noted) = done_before noted.time.0 noted.reply

-- what a statement of the session is, by its transaction and its index; a transaction of which nothing was done is no greater one
abbrev pub seen_among : Statements → ℤ → ℕ → Seen Reply
seen_among kept transaction index =
    if int_lt transaction kept.transaction && are_some kept.notes then older_than kept.transaction
    else if int_eq transaction kept.transaction then seen_as (with_index index kept.notes)
    else new_statement

-- those that were done in that transaction, where none was done in a greater one
abbrev pub notes_in : ℤ → Statements → List StatementRecord
notes_in transaction kept = if int_eq transaction kept.transaction then kept.notes else []

-- what it is once a statement, which was new, was noted in that transaction
abbrev pub seen_after : ℤ → StatementRecord → ℤ → ℕ → Seen Reply → Seen Reply
seen_after noted_in noted transaction index was =
    if int_lt transaction noted_in then older_than noted_in
    else if int_eq noted_in transaction && noted.index == index then done_before noted.time.0 noted.reply
    else was
