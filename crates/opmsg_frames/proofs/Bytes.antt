-- Numbers of four bytes in a list of bytes.
use Rattle.std.proofs.Common.{◌≡◌, ℕ, ◌+◌, ◌<◌, ◌≤◌, ◌^◌, List, ◌++◌, length, take, drop, refl, sym, ap, ◌∙◌, arith, length-drop}
use Rattle.std.specs.Int.{w32, from_le_bytes}
use Rattle.std.proofs.lemmas.List.{take-append-drop, drop-drop, length-take-le, length-take}
use Rattle.std.proofs.lemmas.Nat.{le_bytes_4}
use Rattle.opmsg_model.specs.Messages.{int32, number_at}
use Rattle.bson_model.specs.Grammar.{AreBytes}
use Rattle.bson_values.proofs.Leaves.{AreBytes-take, AreBytes-drop}

-- four bytes are a number below 2 ^ 32
pub number_fits : (k : ℕ) (bytes : List ℕ) → AreBytes bytes → number_at k bytes < 2 ^ 32
number_fits k bytes are = fits (take 4 (drop k bytes)) (AreBytes-take 4 (drop k bytes) (AreBytes-drop k bytes are))
  where
    fits : (four : List ℕ) → AreBytes four → from_le_bytes w32 four < 2 ^ 32
    fits four are = omega (arith, are 0, are 1, are 2, are 3)

-- the bytes encode the number
number_bytes : (k : ℕ) (bytes : List ℕ) → AreBytes bytes → k + 4 ≤ length bytes → int32 (number_at k bytes) ≡ take 4 (drop k bytes)
number_bytes k bytes are room =
    le_bytes_4 (take 4 (drop k bytes)) _ (length-take-le 4 (drop k bytes) (omega (arith, length-drop k bytes))) (AreBytes-take 4 (drop k bytes) (AreBytes-drop k bytes are)) refl

pub number_prefix : (k : ℕ) (bytes : List ℕ) → AreBytes bytes → k + 4 ≤ length bytes → drop k bytes ≡ int32 (number_at k bytes) ++ drop (k + 4) bytes
number_prefix k bytes are room =
    sym (rw drop-drop at (take-append-drop 4 (drop k bytes))) ∙ ap (λ (four : List ℕ). four ++ drop (k + 4) bytes) (sym (number_bytes k bytes are room))
