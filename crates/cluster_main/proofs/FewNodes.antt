-- The arguments start 25 nodes at most.
use Rattle.std.specs.Prelude.{◌≡◌, ℕ, ◌≤◌, Option, Some, None, IfSome}
use Rattle.std.proofs.Common.{arith, subst, sym}
use Rattle.std.specs.Option.{unwrap_or}

pub few_or_none : (given : Option ℕ) → IfSome given (λ count. count ≤ 25) → unwrap_or given 0 ≤ 25
few_or_none None few = omega arith
few_or_none (Some count) few = few

-- where there is a count, it is this one
pub as_counted : (given : Option ℕ) (length : ℕ) → length ≡ unwrap_or given 0 → IfSome given (λ count. length ≡ count)
as_counted None length is = tt
as_counted (Some count) length is = is
