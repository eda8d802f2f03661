-- A piece into whose front bytes were taken.
use Rattle.std.specs.Prelude.{Result, Ok, Err, OnOk, true}
use Rattle.std.specs.Result.{is_ok}
use Rattle.std.proofs.Common.{◌≡◌, ℕ, zero, suc, ◌≤◌, List, [], ◌∷◌, ◌++◌, length, take, refl, ap, ◌∙◌, arith, length-append}
use Rattle.std.proofs.lemmas.List.{take-append-le}

pub take_prefix : (m n : ℕ) (xs : List ℕ) → m ≤ n → take m (take n xs) ≡ take m xs
take_prefix zero n xs h = refl
take_prefix (suc m) zero xs h = absurd (omega arith)
take_prefix (suc m) (suc n) [] h = refl
take_prefix (suc m) (suc n) (x ∷ xs) h = ap (λ ys. x ∷ ys) (take_prefix m n xs (omega arith))

-- at its front are the bytes that were taken
pub front_taken : (count whole : ℕ) (buf network tail : List ℕ) → count ≤ length buf → count ≤ whole
    → take count (take whole ((buf ++ network) ++ tail)) ≡ take count buf
front_taken count whole buf network tail fits below =
    take_prefix count whole ((buf ++ network) ++ tail) below
    ∙ take-append-le count (buf ++ network) tail (omega (arith, fits, length-append buf network))
    ∙ take-append-le count buf network fits

-- what is ensured of a call that went well, where it did
pub as_ok : {X E : Type 0} (answer : Result X E) (P : Type 0) → is_ok answer ≡ true → OnOk answer P → P
as_ok (Ok x) P well ensured = ensured
as_ok (Err e) P well ensured = absurd (cc well)
