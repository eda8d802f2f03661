-- Which statements are in runs, and which are not sent yet (own).
use Rattle.std.specs.Prelude.{◌≡◌, ℕ, ◌<◌, List, length, get_or, Bool, false, not, ◌&&◌, Option}
use Rattle.std.specs.List.{list_any}
use Rattle.node_model.specs.Letters.{Statement}
use Rattle.node_model.specs.RouterRequests.{has_index, is_sent}
use Rattle.node_model.specs.States.{Run}
use Rattle.reply_model.specs.Outcomes.{StatementOutcome, has_outcome}

-- one of these runs has an index
abbrev pub in_one_of : List Run → ℕ → Bool
in_one_of runs index = list_any (λ (run : Run). has_index run.indices index) runs

-- at each place is whether its index passes a test
abbrev pub AreMarks : List Bool → (ℕ → Bool) → Type 0
AreMarks marks test = (index : ℕ) → index < length marks → get_or marks index false ≡ test index

-- a statement has no outcome and is in none of these runs
abbrev pub is_new : List (Option StatementOutcome) → List Run → Statement → Bool
is_new answers runs s = not (has_outcome answers s.number.index) && not (is_sent runs s)
