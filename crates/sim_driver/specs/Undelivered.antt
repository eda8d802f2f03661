-- Which messages of a script are left to deliver (own).
use Rattle.std.specs.Prelude.{◌≡◌, ℕ, List, Bool, false}
use Rattle.sim_driver.specs.Scripts.{is_delivered}

-- the message at a place was not delivered
abbrev pub IsUndelivered : (delivered : List Bool) → (place : ℕ) → Type 0
IsUndelivered delivered place = is_delivered delivered place ≡ false
