-- A size that is counted up to a cap exceeds a limit below the cap exactly where the size does.
use Rattle.std.proofs.Common.{◌≡◌, ℕ, ◌<◌, refl, arith}
use Rattle.std.specs.Prelude.{Bool, true, false, min, nat_lt}
use Rattle.std.proofs.lemmas.Bool.{lt-ltb, ltb-true, le-ltb, ltb-false}

by_test : (limit n cap : ℕ) (past : Bool) → limit < cap → nat_lt limit n ≡ past → nat_lt limit (min n cap) ≡ past
by_test limit n cap true below e = lt-ltb limit (min n cap) (omega (arith, ltb-true limit n e))
by_test limit n cap false below e = le-ltb limit (min n cap) (omega (arith, ltb-false limit n e))

pub past_capped : (limit n cap : ℕ) → limit < cap → nat_lt limit (min n cap) ≡ nat_lt limit n
past_capped limit n cap below = by_test limit n cap (nat_lt limit n) below refl
