-- The list of records in a file.
use Rattle.std.proofs.Common.{◌≡◌, ◌⊎◌, inl, inr, ℕ, zero, suc, ◌+◌, ◌<◌, ◌≤◌, ◌^◌, List, [], ◌∷◌, ◌++◌, length, take, drop, refl, sym, ◌∙◌, ap, arith, append_assoc, length-append}
use Rattle.std.proofs.lemmas.List.{take_at, drop_at}
use Rattle.std.proofs.lemmas.Nat.{from_le_bytes-to_le_bytes_8}
use Rattle.std.specs.Int.{w64, to_le_bytes, from_le_bytes}
use Rattle.journal_frames.specs.Files.{Fit, IsShut, Stands, blocks, body, records_from, records_in, stated}
use Rattle.journal_frames.specs.Views.{at_rest}
use Rattle.journal_frames.proofs.Bodies.{length-body}
use Rattle.journal_frames.proofs.Closed.{none_in_empty}
use Rattle.journal_frames.proofs.Staged.{stands_last}

-- lengths that 8 bytes can encode, since the whole has fewer than 2^64 bytes
pub fit_within : (records : List (List ℕ)) → length (blocks records) < 2 ^ 64 → Fit records
fit_within [] short = tt
fit_within (r ∷ records) short =
    let long = length-append (body r) (blocks records) in
    (omega (arith, short, long, length-body r), fit_within records (omega (arith, short, long)))

-- a gate that is not open ends the list
none_shut : (n : ℕ) (rest : List ℕ) → IsShut rest → records_from n rest ≡ []
unfolding records_from
none_shut zero rest shut = refl
none_shut (suc n) [] shut = refl
none_shut (suc n) (zero ∷ []) shut = refl
none_shut (suc n) (suc zero ∷ []) shut = refl
none_shut (suc n) (suc (suc gate) ∷ []) shut = refl
none_shut (suc n) (zero ∷ b ∷ rest) shut = refl
none_shut (suc n) (suc zero ∷ b ∷ rest) shut = absurd (shut refl)
none_shut (suc n) (suc (suc gate) ∷ b ∷ rest) shut = refl

-- an open gate with a length after it
opened : (n : ℕ) (behind : List ℕ) (length_is : ℕ) → 0 < length behind → stated behind ≡ length_is
    → records_from (suc n) (1 ∷ behind) ≡ take length_is (drop 8 behind) ∷ records_from n (drop (8 + length_is) behind)
unfolding records_from
opened n [] length_is some is = absurd (omega (arith, some))
opened n (b ∷ rest) length_is some is = ap (λ (k : ℕ). take k (drop 8 (b ∷ rest)) ∷ records_from n (drop (8 + k) (b ∷ rest))) is

-- a record with its gate comes first in the list
first : (n : ℕ) (r rest : List ℕ) → length r < 2 ^ 64 → records_from (suc n) (1 ∷ (body r ++ rest)) ≡ r ∷ records_from n rest
first n r rest fit =
    let whole : body r ++ rest ≡ to_le_bytes w64 (length r) ++ (r ++ rest) = append_assoc (to_le_bytes w64 (length r)) r rest in
    let states : stated (body r ++ rest) ≡ length r = ap (λ (l : List ℕ). stated l) whole
    ∙ ap (λ (l : List ℕ). from_le_bytes w64 l) (take_at (to_le_bytes w64 (length r)) (r ++ rest) 8 refl)
    ∙ from_le_bytes-to_le_bytes_8 (length r) fit in
    let content : drop 8 (body r ++ rest) ≡ r ++ rest = ap (λ (l : List ℕ). drop 8 l) whole ∙ drop_at (to_le_bytes w64 (length r)) (r ++ rest) 8 refl in
    let behind : drop (8 + length r) (body r ++ rest) ≡ rest = drop_at (body r) rest (8 + length r) (length-body r) in
    opened n (body r ++ rest) (length r) (omega (arith, length-append (body r) rest, length-body r)) states
    ∙ ap (λ (l : List ℕ). take (length r) l ∷ records_from n (drop (8 + length r) (body r ++ rest))) content
    ∙ ap (λ (l : List ℕ). l ∷ records_from n (drop (8 + length r) (body r ++ rest))) (take_at r rest (length r) refl)
    ∙ ap (λ (l : List ℕ). r ∷ records_from n l) behind

listed_from : (n : ℕ) (records : List (List ℕ)) (rest : List ℕ) → Fit records → IsShut rest → length (blocks records ++ rest) ≤ n
    → records_from n (blocks records ++ rest) ≡ records
listed_from n [] rest fits shut room = none_shut n rest shut
listed_from zero (r ∷ records) rest fits shut room = absurd (omega (arith, room))
listed_from (suc n) (r ∷ records) rest fits shut room =
    let tail : blocks (r ∷ records) ++ rest ≡ 1 ∷ (body r ++ (blocks records ++ rest)) = ap (λ (l : List ℕ). 1 ∷ l) (append_assoc (body r) (blocks
    records) rest) in
    ap (λ (l : List ℕ). records_from (suc n) l) tail ∙ first n r (blocks records ++ rest) fits.0
    ∙ ap (λ (rs : List (List ℕ)). r ∷ rs) (listed_from n records rest fits.1 shut (omega (
      arith,
      room,
      ap length tail,
      length-append (body r) (blocks
          records ++ rest),
    )))

none_in_nothing : records_in [] ≡ []
unfolding records_in records_from
none_in_nothing = refl

empty_or_shut : (file rest : List ℕ) (records : List (List ℕ)) → Fit records → file ≡ blocks records ++ rest → IsShut rest ⊎ (file ≡ [])
    → records_in file ≡ records
unfolding records_in
empty_or_shut file rest records fits split (inl shut) = ap records_in split ∙ listed_from (length (blocks records ++ rest)) records rest fits shut (omega arith)
empty_or_shut file rest records fits split (inr empty) = ap records_in empty ∙ none_in_nothing ∙ sym (none_in_empty records rest (sym empty ∙ split))

-- this list is the one of the definition
pub listed : (file : List ℕ) (records : List (List ℕ)) → Stands file records → records_in file ≡ records
listed file records stands = empty_or_shut file stands.rest records stands.fits stands.split stands.shut

-- the list of a file at rest
pub listed_rest : (content : List ℕ) (records : List (List ℕ)) → Fit records → content ≡ at_rest records → records_in content ≡ records
listed_rest content records fits is = ap records_in is ∙ listed (at_rest records) records (stands_last records 0 fits)
