-- The words of a line: they are parted by one space.
use Rattle.std.specs.Prelude.{◌≡◌, ◌≢◌, ℕ, ◌<◌, ◌^◌, List, [], ◌∷◌, ◌++◌, Ok}
use Rattle.std.specs.Fmt.{decimal}
use Rattle.std.specs.List.{AllByRecursion}
use Rattle.hex.specs.Hex.{decode_of}

-- no byte is this one
abbrev pub HasNone : (byte : ℕ) → List ℕ → Type 0
HasNone byte bytes = AllByRecursion (λ b. b ≢ byte) bytes

-- the bytes are cut where this byte first occurs
pub record IsCutAt (byte : ℕ) (bytes before behind : List ℕ) : Type 0 where
  pub whole : bytes ≡ before ++ byte ∷ behind
  pub first : HasNone byte before

-- a number in decimal digits, without a leading zero
pub record IsNumber (word : List ℕ) (n : ℕ) : Type 0 where
  pub digits : word ≡ decimal n
  pub fits : n < 2 ^ 64

-- two numbers
pub record AreNumbers (words : List ℕ) (m n : ℕ) : Type 0 where
  pub first : List ℕ
  pub second : List ℕ
  pub whole : words ≡ first ++ 32 ∷ second
  pub is_first : IsNumber first m
  pub is_second : IsNumber second n

-- bytes in hexadecimal, some; in lower or upper case
pub record IsHex (word : List ℕ) (bytes : List ℕ) : Type 0 where
  pub digits : decode_of word ≡ Ok bytes
  pub some : word ≢ []
