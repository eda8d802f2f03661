-- What is kept of the statements of each session (MongoDB manual, "Retryable Writes", "Server Sessions"): those that were done in its
-- greatest transaction. How sessions are ordered is own.
use Rattle.std.specs.Prelude.{ℕ, ℤ, List, [], ◌∷◌, Bool, true, false, ◌&&◌, ◌||◌, ◌==◌, Option, Some, None, nat_lt}
use Rattle.bson_model.specs.Tree.{Datum}
use Rattle.history_model.specs.History.{Session, client_session, router_session}

-- what a statement is told; an error is told by its number, and 0 is none
pub record OutcomeWords : Type 0 where
  pub count : ℕ
  pub modified : ℕ
  pub upserted : Option Datum
  pub code : ℤ

-- a statement that was done: its index in its command, the time of its entry, and what it was told
pub record StatementRecord : Type 0 where
  pub index : ℕ
  pub time : ℕ
  pub outcome : OutcomeWords

-- the statements that were done in a session's greatest transaction
pub record SessionRecord : Type 0 where
  pub session : Session
  pub transaction : ℤ
  pub statements : List StatementRecord

-- the bytes come first where, at the first place in which they differ, theirs is less; and those that others begin with
abbrev pub bytes_before : List ℕ → List ℕ → Bool
bytes_before bytes [] = false
bytes_before [] (b ∷ others) = true
bytes_before (a ∷ bytes) (b ∷ others) = nat_lt a b || ((a == b) && bytes_before bytes others)

-- clients' sessions by their bytes, then routers' by node, life and request
abbrev pub session_before : Session → Session → Bool
session_before (client_session a) (client_session b) = bytes_before a b
session_before (client_session a) (router_session node life request) = true
session_before (router_session node life request) (client_session b) = false
session_before (router_session node life request) (router_session other_node other_life other_request) =
    nat_lt node other_node || ((node == other_node) && (nat_lt life other_life || ((life == other_life) && nat_lt request other_request)))

-- what comes next, if anything came before
abbrev pub is_next : {X : Type 0} → (X → X → Bool) → Option X → X → Bool
is_next before None x = true
is_next before (Some last) x = before last x

-- each index is above the last one, and those that follow rise too
abbrev pub indices_rise : Option ℕ → List StatementRecord → Bool
indices_rise last [] = true
indices_rise last (s ∷ statements) = is_next nat_lt last s.index && indices_rise (Some s.index) statements

-- each session comes after the last one, with rising indices, and those that follow do too
abbrev pub sessions_rise : Option Session → List SessionRecord → Bool
sessions_rise last [] = true
sessions_rise last (s ∷ sessions) = is_next session_before last s.session && (indices_rise None s.statements && sessions_rise (Some s.session) sessions)

-- in the order of sessions, each once, and so the indices of each
abbrev pub are_in_order : List SessionRecord → Bool
are_in_order sessions = sessions_rise None sessions
