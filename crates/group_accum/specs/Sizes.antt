-- Numbers of bytes as the program returns them.
use Rattle.std.specs.Prelude.{ℕ, ◌-◌, ◌^◌, min}

-- the number, or the greatest usize where that is less
abbrev pub capped : ℕ → ℕ
capped n = min n (2 ^ 64 - 1)
