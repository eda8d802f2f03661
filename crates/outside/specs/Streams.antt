-- What a source gave and what a sink took, where the bytes are observable.
use Rattle.std.specs.Prelude.{◌≡◌, ℕ, List, ◌++◌, Bool, IsTrue}

-- these bytes were taken from the front of those that were left
abbrev pub Took : Bool → List ℕ → List ℕ → List ℕ → Type 0
Took tells left bytes left' = IsTrue tells → left ≡ bytes ++ left'

-- these bytes were appended to those written before
abbrev pub Put : Bool → List ℕ → List ℕ → List ℕ → Type 0
Put tells held bytes held' = IsTrue tells → held' ≡ held ++ bytes
