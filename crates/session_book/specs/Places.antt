-- The places of what is stored of sessions.
use Rattle.std.specs.Prelude.{◌≡◌, ◌<◌, ℕ, List, Option, Some, None, length}
use Rattle.std.specs.List.{slice_get}
use Rattle.std.specs.Map.{lookup}
use Rattle.cluster_base.specs.declared.identity.Session.{Session}
use Rattle.history_model.specs.History as history
use Rattle.history_model.specs.Notes.{same_session}
use Rattle.statement_views.specs.Views.{session_view}
use Rattle.session_book.specs.Statements.{Statements}

-- the place of a session, if it has one
abbrev pub place_of : List (Session × ℕ) → history.Session → Option ℕ
place_of places session = lookup (λ s. same_session session (session_view s)) places

-- what is stored at the place, if there is one
abbrev pub statements_at : List Statements → Option ℕ → Option Statements
statements_at kept None = None
statements_at kept (Some place) = slice_get kept place

-- at the place of a session something is stored, and no other session has that place
pub record AreApart (places : List (Session × ℕ)) (kept : List Statements) : Type 0 where
  pub inside : (session : history.Session) (place : ℕ) → place_of places session ≡ Some place → place < length kept
  pub own : (a b : history.Session) (place : ℕ) → place_of places a ≡ Some place → place_of places b ≡ Some place → a ≡ b
