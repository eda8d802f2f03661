-- How long an encoding is, counted part by part. A count that would exceed the greatest number stays there.
use Rattle.std.proofs.Common.{◌≡◌, ℕ, ◌+◌, ◌-◌, ◌<◌, ◌^◌, min, List, length}
use Rattle.bson_model.specs.Spelling.{framed}

abbrev pub capped : ℕ → ℕ
capped n = min n (2 ^ 64 - 1)

-- while the parts of `all` are counted: the count, with the frame, and what is left to count
pub record Counts (all rest : List ℕ) (size : ℕ) : Type 0 where
  pub fits : size < 2 ^ 64
  pub sum : capped (size + length rest) ≡ capped (length (framed all))
