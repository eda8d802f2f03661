-- Looking for the first 00, byte by byte.
use Rattle.std.proofs.Common.{◌≡◌, ◌≢◌, ℕ, ◌+◌, ◌<◌, ◌≤◌, true, false, eqb, List, [], ◌∷◌, ◌++◌, length, get_or, take, drop, Option, Some, None, refl, sym, ap, ◌∙◌, append_assoc, add-one, drop-cons, arith}
use Rattle.std.specs.Option.{option_map}
use Rattle.std.proofs.lemmas.List.{append-nil}
use Rattle.std.proofs.lemmas.Bool.Decides.{nat_tests}
use Rattle.std.proofs.lemmas.Grind.{common_steps}
use Rattle.std.proofs.Math.Seq.{take-suc}
use Rattle.bson_model.specs.Faults.{before_zero}

-- the bytes already passed, and the result for the rest
abbrev pub after : List ℕ → Option (List ℕ) → Option (List ℕ)
after prefix name = option_map (λ more. prefix ++ more) name

regroup : (prefix : List ℕ) (b : ℕ) (name : Option (List ℕ)) → after prefix (option_map (λ more. b ∷ more) name) ≡ after (prefix ++ b ∷ []) name
regroup prefix b (Some x) = ap (λ (more : List ℕ). Some more) (simp append_assoc)
regroup prefix b None = refl

one : (b : ℕ) (rest : List ℕ) → b ≢ 0 → before_zero (b ∷ rest) ≡ option_map (λ more. b ∷ more) (before_zero rest)
one b rest h = let e : eqb b 0 ≡ false = grind (arith, nat_tests) in rw e refl

found_here : (b : ℕ) (rest : List ℕ) → b ≡ 0 → before_zero (b ∷ rest) ≡ Some []
found_here b rest h = let e : eqb b 0 ≡ true = grind (arith, nat_tests) in rw e refl

pub goes_on : (i : ℕ) (bytes : List ℕ) (name : Option (List ℕ)) → i < length bytes → get_or bytes i 0 ≢ 0 → after (take i bytes) (before_zero (drop i bytes)) ≡ name → after (take (i + 1) bytes) (before_zero (drop (i + 1) bytes)) ≡ name
goes_on i bytes name lt ne so_far =
    let d : drop i bytes ≡ get_or bytes i 0 ∷ drop (i + 1) bytes = rw add-one (drop-cons bytes i 0 lt) in
    let t : take (i + 1) bytes ≡ take i bytes ++ get_or bytes i 0 ∷ [] = rw add-one (take-suc bytes i 0 lt) in
    let step : after (take i bytes) (before_zero (drop i bytes)) ≡ after (take (i + 1) bytes) (before_zero (drop (i + 1) bytes)) =
    rw (d, t, one (get_or bytes i 0) (drop (i + 1) bytes) ne) (regroup (take i bytes) (get_or bytes i 0) (before_zero (drop (i + 1) bytes))) in
    sym step ∙ so_far

pub found : (i : ℕ) (bytes : List ℕ) (name : Option (List ℕ)) → i < length bytes → get_or bytes i 0 ≡ 0 → after (take i bytes) (before_zero (drop i bytes)) ≡ name → Some (take i bytes) ≡ name
found i bytes name lt is_zero so_far =
    let d : drop i bytes ≡ get_or bytes i 0 ∷ drop (i + 1) bytes = rw add-one (drop-cons bytes i 0 lt) in
    let step : after (take i bytes) (before_zero (drop i bytes)) ≡ Some (take i bytes) =
    rw (d, found_here (get_or bytes i 0) (drop (i + 1) bytes) is_zero) (ap (λ (more : List ℕ). Some more) (append-nil (take i bytes))) in
    sym step ∙ so_far

pub none_found : (i : ℕ) (bytes : List ℕ) (name : Option (List ℕ)) → length bytes ≤ i → after (take i bytes) (before_zero (drop i bytes)) ≡ name → None ≡ name
none_found i bytes name le so_far =
    let d : drop i bytes ≡ [] = grind (arith, common_steps) in
    let step : after (take i bytes) (before_zero (drop i bytes)) ≡ None = rw d refl in
    sym step ∙ so_far
