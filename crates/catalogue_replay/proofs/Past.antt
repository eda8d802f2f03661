-- Changes, and the greatest time in the journal.
use Rattle.std.proofs.Common.{◌≡◌, ◌≤◌, ◌<◌, ℕ, List, [], ◌∷◌, arith}
use Rattle.std.specs.List.{AllByRecursion}
use Rattle.chunk_model.specs.Changes.{Change, time_of}

-- changes that are not later than a time are before each later one
pub past_before : (a b : ℕ) (xs : List Change) → a < b → AllByRecursion (λ x. time_of x ≤ a) xs → AllByRecursion (λ x. time_of x < b) xs
past_before a b [] lt all = tt
past_before a b (x ∷ xs) lt all = (omega (arith, lt, all.0), past_before a b xs lt all.1)

-- and not later than it
pub past_later : (a b : ℕ) (xs : List Change) → a ≤ b → AllByRecursion (λ x. time_of x ≤ a) xs → AllByRecursion (λ x. time_of x ≤ b) xs
past_later a b [] le all = tt
past_later a b (x ∷ xs) le all = (omega (arith, le, all.0), past_later a b xs le all.1)
