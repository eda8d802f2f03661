-- The moments that a clock in memory may give (own).
use Rattle.std.specs.Prelude.{◌≡◌, ℕ, List, [], ◌∷◌, Some}
use Rattle.std.specs.List.{slice_get}

-- one of the list, or 0 where it has none
abbrev pub IsOfList : List ℕ → ℕ → Type 0
IsOfList [] moment = moment ≡ 0
IsOfList (first ∷ moments) moment = (place : ℕ) × (slice_get (first ∷ moments) place ≡ Some moment)
