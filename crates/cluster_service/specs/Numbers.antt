-- Numbers in the arguments of the command line (own).
use Rattle.std.specs.Prelude.{ℕ, ◌^◌, ◌&&◌, List, length, Option, Some, None, nat_le, nat_lt, if◌then◌else◌}
use Rattle.std.specs.Str.{all_ascii_digits}
use Rattle.std.specs.Str.Parse.{digits_value, without_leading_plus}

-- how many shards and routers there may be
abbrev pub most_shards : ℕ
most_shards = 16

abbrev pub most_routers : ℕ
most_routers = 8

-- The number that std reads in a word as a u64: decimal digits, one or more, which may follow a plus, of a value below 2^64.
abbrev pub number_in : List ℕ → Option ℕ
number_in word =
    if nat_lt 0 (length (without_leading_plus word)) && all_ascii_digits (without_leading_plus word)
    && nat_lt (digits_value 10 (without_leading_plus word)) (2 ^ 64)
    then Some (digits_value 10 (without_leading_plus word)) else None

-- a number in its range, or none
abbrev pub within : (least most : ℕ) → Option ℕ → Option ℕ
within least most None = None
within least most (Some number) = if nat_le least number && nat_le number most then Some number else None
