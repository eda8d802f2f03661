-- The link of a router (own).
use Rattle.std.specs.Prelude.{ℕ, List, [], Bool, true, false}

-- Its number, the bytes on it that begin no whole request, and how many replies its requests get. Where it is not open, the one before it was closed,
-- and the next line with bytes for the router opens it.
pub record LinkView : Type 0 where
  pub number : ℕ
  pub left : List ℕ
  pub replied : ℕ
  pub is_open : Bool

-- it is open from the start, also if no bytes came on it
abbrev pub new_link : (number : ℕ) → LinkView
new_link number = record { number = number; left = []; replied = 0; is_open = true }

abbrev pub next_link : (number : ℕ) → LinkView
next_link number = record { number = number; left = []; replied = 0; is_open = false }
