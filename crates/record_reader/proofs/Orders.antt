-- Bytes that come before others, place by place.
use Rattle.std.proofs.Common.{◌≡◌, ◌≢◌, ℕ, List, ◌∷◌, arith}
use Rattle.std.specs.Prelude.{nat_lt}
use Rattle.history_model.specs.Sessions.{bytes_before}

pub same_byte : (a b : ℕ) (bytes others : List ℕ) → a ≡ b → bytes_before (a ∷ bytes) (b ∷ others) ≡ bytes_before bytes others
same_byte a b bytes others e = grind (arith, e)

pub other_byte : (a b : ℕ) (bytes others : List ℕ) → a ≢ b → bytes_before (a ∷ bytes) (b ∷ others) ≡ nat_lt a b
other_byte a b bytes others e = grind (arith, e)
