-- Which records are in the file of a journal (own format). A record is a gate, its length in 8 bytes, little-endian,
-- and its bytes; the gate of the next record follows. A gate is open where it is 01 and not the file's last byte.
use Rattle.std.specs.Prelude.{◌≡◌, ◌≢◌, ◌⊎◌, ℕ, zero, suc, ◌+◌, ◌<◌, ◌^◌, List, [], ◌∷◌, ◌++◌, length, take, drop}
use Rattle.std.specs.Int.{w64, to_le_bytes, from_le_bytes}
use Rattle.std.specs.List.{AllByRecursion}

-- the length and the bytes of a record
abbrev pub body : List ℕ → List ℕ
body bytes = to_le_bytes w64 (length bytes) ++ bytes

-- records whose gates are open
abbrev pub blocks : List (List ℕ) → List ℕ
blocks [] = []
blocks (r ∷ records) = 1 ∷ body r ++ blocks records

-- the gate that these bytes begin with is not open
abbrev pub IsShut : List ℕ → Type 0
IsShut [] = ⊥
IsShut (gate ∷ []) = Unit {0}
IsShut (gate ∷ b ∷ rest) = gate ≢ 1

-- lengths that 8 bytes can encode
abbrev pub Fit : List (List ℕ) → Type 0
Fit records = AllByRecursion (λ r. length r < 2 ^ 64) records

-- These are the records of the file: those from the front whose gates are open. An empty file has none.
pub record Stands (file : List ℕ) (records : List (List ℕ)) : Type 0 where
  pub rest : List ℕ
  pub fits : Fit records
  pub split : file ≡ blocks records ++ rest
  pub shut : IsShut rest ⊎ (file ≡ [])

-- the bytes after an open gate begin with a record and the next gate
pub record BeginsRecord (rest : List ℕ) : Type 0 where
  pub bytes : List ℕ
  pub gate : ℕ
  pub behind : List ℕ
  pub fits : length bytes < 2 ^ 64
  pub split : rest ≡ body bytes ++ gate ∷ behind

-- Damage at an offset: an open gate is there, and no record after it that ends before the file's last byte.
pub record IsDamaged (file : List ℕ) (offset : ℕ) : Type 0 where
  pub records : List (List ℕ)
  pub gate : ℕ
  pub rest : List ℕ
  pub fits : Fit records
  pub split : file ≡ blocks records ++ gate ∷ rest
  pub open_gate : ¬ IsShut (gate ∷ rest)
  pub no_record : ¬ BeginsRecord rest
  pub at : offset ≡ length (blocks records)

-- the file has just these records, or these with all that were to be appended
abbrev pub StandsWithOrWithout : List (List ℕ) → (more : List (List ℕ)) → List ℕ → Type 0
StandsWithOrWithout records more file = Stands file records ⊎ Stands file (records ++ more)

-- the length that the bytes after a gate state
abbrev pub stated : List ℕ → ℕ
stated rest = from_le_bytes w64 (take 8 rest)

-- the first records of a file, at most n: those from the front whose gates are open
unfoldable pub records_from : ℕ → List ℕ → List (List ℕ)
records_from (suc n) (suc zero ∷ b ∷ rest) =
    take (stated (b ∷ rest)) (drop 8 (b ∷ rest)) ∷ records_from n (drop (8 + stated (b ∷ rest)) (b ∷ rest))
records_from n file = []

-- the list of records in a file, if there is one
unfoldable pub records_in : List ℕ → List (List ℕ)
records_in file = records_from (length file) file

-- the same records are in both files
abbrev pub HaveSameRecords : List ℕ → List ℕ → Type 0
HaveSameRecords file other = (records : List (List ℕ)) × Stands file records × Stands other records
