-- Looking for the end of a name, byte by byte.
use Rattle.std.proofs.Common.{◌≡◌, ◌≢◌, ℕ, suc, ◌+◌, ◌-◌, ◌<◌, ◌≤◌, true, false, eqb, List, [], ◌∷◌, ◌++◌, length, get_or, take, drop, Result, Ok, Err, refl, sym, ap, ◌∙◌, append_assoc, add-one, drop-cons, arith}
use Rattle.std.proofs.lemmas.List.{append-nil}
use Rattle.std.proofs.lemmas.Bool.Decides.{nat_tests}
use Rattle.std.proofs.lemmas.Grind.{common_steps}
use Rattle.std.proofs.Math.Seq.{take-suc}
use Rattle.bson_values.specs.declared.fault.BsonFault.{BsonFault}
use Rattle.bson_values.specs.declared.fault.BsonFault.TheVariants.{Short, BadText}
use Rattle.bson_values.specs.ReadFaults.{◌>>=◌}
use Rattle.bson_values.specs.Readers.{name_from}

-- the bytes already passed, and the result for the rest
abbrev pub after : List ℕ → Result (List ℕ × List ℕ) BsonFault → Result (List ℕ × List ℕ) BsonFault
after prefix read = read >>= λ x. Ok (prefix ++ x.0, x.1)

regroup : (prefix : List ℕ) (b : ℕ) (read : Result (List ℕ × List ℕ) BsonFault) → after prefix (read >>= λ x. Ok (b ∷ x.0, x.1)) ≡ after (prefix ++ b ∷ []) read
regroup prefix b (Ok x) = ap (λ (name : List ℕ). Ok (name, x.1)) (simp append_assoc)
regroup prefix b (Err e) = refl

one : (total offset room b : ℕ) (rest : List ℕ) → b ≢ 0 → name_from total offset (suc room) (b ∷ rest) ≡ (name_from total offset room rest >>= λ x. Ok (b ∷ x.0, x.1))
unfolding name_from
one total offset room b rest h = let e : eqb b 0 ≡ false = grind (arith, nat_tests) in rw e refl

found_here : (total offset room b : ℕ) (rest : List ℕ) → b ≡ 0 → name_from total offset (suc room) (b ∷ rest) ≡ Ok ([], rest)
unfolding name_from
found_here total offset room b rest h = let e : eqb b 0 ≡ true = grind (arith, nat_tests) in rw e refl

none_here : (total offset : ℕ) (rest : List ℕ) → name_from total offset 0 rest ≡ Err (BadText offset)
unfolding name_from
none_here total offset rest = refl

cut_here : (total offset room : ℕ) → name_from total offset (suc room) [] ≡ Err (Short total)
unfolding name_from
cut_here total offset room = refl

pub goes_on : (total offset room i : ℕ) (bytes : List ℕ) (read : Result (List ℕ × List ℕ) BsonFault) → i < length bytes → i < room → get_or bytes i 0 ≢ 0
    → after (take i bytes) (name_from total offset (room - i) (drop i bytes)) ≡ read → after (take (i + 1) bytes) (name_from total offset (room - (i + 1)) (drop (i + 1) bytes)) ≡ read
goes_on total offset room i bytes read lt below ne so_far =
    let k : room - i ≡ suc (room - (i + 1)) = omega arith in
    let d : drop i bytes ≡ get_or bytes i 0 ∷ drop (i + 1) bytes = rw add-one (drop-cons bytes i 0 lt) in
    let t : take (i + 1) bytes ≡ take i bytes ++ get_or bytes i 0 ∷ [] = rw add-one (take-suc bytes i 0 lt) in
    let step : after (take i bytes) (name_from total offset (room - i) (drop i bytes)) ≡ after (take (i + 1) bytes) (name_from total offset (room - (i + 1)) (drop (i + 1) bytes)) =
    rw (k, d, t, one total offset (room - (i + 1)) (get_or bytes i 0) (drop (i + 1) bytes) ne) (regroup (take i bytes) (get_or bytes i 0) (name_from total offset (room - (i + 1)) (drop (i + 1) bytes))) in
    sym step ∙ so_far

pub found : (total offset room i : ℕ) (bytes : List ℕ) (read : Result (List ℕ × List ℕ) BsonFault) → i < length bytes → i < room → get_or bytes i 0 ≡ 0
    → after (take i bytes) (name_from total offset (room - i) (drop i bytes)) ≡ read → read ≡ Ok (take i bytes, drop (i + 1) bytes)
found total offset room i bytes read lt below is_zero so_far =
    let k : room - i ≡ suc (room - (i + 1)) = omega arith in
    let d : drop i bytes ≡ get_or bytes i 0 ∷ drop (i + 1) bytes = rw add-one (drop-cons bytes i 0 lt) in
    let step : after (take i bytes) (name_from total offset (room - i) (drop i bytes)) ≡ Ok (take i bytes, drop (i + 1) bytes) =
    rw (k, d, found_here total offset (room - (i + 1)) (get_or bytes i 0) (drop (i + 1) bytes) is_zero) (ap (λ (name : List ℕ). Ok (name, drop (i + 1) bytes)) (append-nil (take i bytes))) in
    sym so_far ∙ step

pub full : (total offset room i : ℕ) (bytes : List ℕ) (read : Result (List ℕ × List ℕ) BsonFault) → i ≡ room
    → after (take i bytes) (name_from total offset (room - i) (drop i bytes)) ≡ read → read ≡ Err (BadText offset)
full total offset room i bytes read e so_far =
    let k : room - i ≡ 0 = omega arith in
    let step : after (take i bytes) (name_from total offset (room - i) (drop i bytes)) ≡ Err (BadText offset) = rw (k, none_here total offset (drop i bytes)) refl in
    sym so_far ∙ step

pub cut : (total offset room i : ℕ) (bytes : List ℕ) (read : Result (List ℕ × List ℕ) BsonFault) → i < room → length bytes ≤ i
    → after (take i bytes) (name_from total offset (room - i) (drop i bytes)) ≡ read → read ≡ Err (Short total)
cut total offset room i bytes read below le so_far =
    let k : room - i ≡ suc (room - (i + 1)) = omega arith in
    let d : drop i bytes ≡ [] = grind (arith, common_steps) in
    let step : after (take i bytes) (name_from total offset (room - i) (drop i bytes)) ≡ Err (Short total) = rw (k, d, cut_here total offset (room - (i + 1))) refl in
    sym so_far ∙ step
