-- Own: which outcome by index is new, and what there is to answer.
use Rattle.std.specs.Prelude.{ℕ, zero, suc, List, [], ◌∷◌, Bool, true, false, not, ◌&&◌, ◌||◌, Option, Some, None}
use Rattle.reply_model.specs.Outcomes.{StatementOutcome}
use Rattle.node_model.specs.RouterNext.{has_before}

-- the statement with this index has no outcome yet
abbrev pub is_open : (index : ℕ) → List (Option StatementOutcome) → Bool
is_open index [] = false
is_open zero (None ∷ answers) = true
is_open zero (Some x ∷ answers) = false
is_open (suc index) (x ∷ answers) = is_open index answers

-- the outcome of the statement with this index is new: there is none yet, and of an ordered write the statements before it have theirs
abbrev pub is_new : (ordered : Bool) → (index : ℕ) → List (Option StatementOutcome) → Bool
is_new ordered index answers = (not ordered || has_before index answers) && is_open index answers

-- the index of the first statement without an outcome; how many there are where each has one
abbrev pub first_open : List (Option StatementOutcome) → ℕ
first_open [] = 0
first_open (None ∷ answers) = 0
first_open (Some x ∷ answers) = suc (first_open answers)

-- how many statements have outcomes
abbrev pub answered : List (Option StatementOutcome) → ℕ
answered [] = 0
answered (None ∷ answers) = answered answers
answered (Some x ∷ answers) = suc (answered answers)
