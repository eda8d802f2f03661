-- What is later than a time is later than all before that.
use Rattle.std.proofs.Common.{◌≤◌, ◌<◌, ℕ, List, [], ◌∷◌, arith}
use Rattle.std.specs.List.{AllByRecursion}
use Rattle.chunk_model.specs.Changes.{Change, time_of}

abbrev pub AreEarlier : ℕ → List Change → Type 0
AreEarlier at changes = AllByRecursion (λ y. time_of y < at) changes

pub later : (next at : ℕ) (changes : List Change) → next ≤ at → AreEarlier next changes → AreEarlier at changes
later next at [] le earlier = tt
later next at (x ∷ changes) le earlier =
    let before : time_of x < next = earlier.0 in
    (omega arith, later next at changes le earlier.1)
