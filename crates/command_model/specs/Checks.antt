-- Checks in order: the first that fails decides.
use Rattle.std.specs.Prelude.{ℕ, List, [], ◌∷◌, Bool, true, false, Option, Some, None}
use Rattle.std.specs.List.{list_any}
use Rattle.std.specs.Str.{bytes_eq}
use Rattle.base_model.specs.Errors.{ErrorCode}

-- the result of a check: an error, or none
abbrev pub Verdict : Type 0
Verdict = Option ErrorCode

abbrev pub first_of : List Verdict → Verdict
first_of [] = None
first_of (None ∷ verdicts) = first_of verdicts
first_of (Some error ∷ verdicts) = Some error

-- the error, unless the test passes
abbrev pub unless_passes : Bool → ErrorCode → Verdict
unless_passes true error = None
unless_passes false error = Some error

abbrev pub is_one_of : List ℕ → List (List ℕ) → Bool
is_one_of name names = list_any (λ n. bytes_eq n name) names
