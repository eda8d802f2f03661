-- Cluster times (MongoDB manual, "Timestamps"): a number with the seconds above and a counter in the low 32 bits.
-- A moment is a number of milliseconds since 1970.
use Rattle.std.specs.Prelude.{ℕ, ◌+◌, ◌-◌, ◌*◌, ◌/◌, ◌^◌, min}

-- Ts(seconds, counter)
abbrev pub timestamp : ℕ → ℕ → ℕ
timestamp seconds counter = seconds * 2 ^ 32 + counter

-- the least time of a moment's second, of the second 2^31 at most
abbrev pub time_of_moment : ℕ → ℕ
time_of_moment moment = min (moment / 1000) (2 ^ 31) * 2 ^ 32

-- how far back history is kept at a moment: 300 seconds, not below 0
abbrev pub retained_at : ℕ → ℕ
retained_at moment = time_of_moment moment - timestamp 300 0
