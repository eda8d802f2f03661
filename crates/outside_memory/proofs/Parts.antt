-- Parts of lists of bytes that a copy joins again.
use Rattle.std.proofs.Common.{append_assoc, ◌≡◌, ℕ, zero, suc, ◌+◌, ◌-◌, ◌<◌, ◌≤◌, List, [], ◌∷◌, ◌++◌, length, take, drop, replicate, arith, refl, sym, ◌∙◌, ap}
use Rattle.std.proofs.lemmas.List.{take-append-drop, drop-drop, take-replicate, drop-replicate}
use Rattle.std.proofs.lemmas.Grind.{common_steps}
use Rattle.outside_memory.specs.Memory.{written}
use Rattle.std.proofs.Math.Seq.{take-append_seam, drop-append_seam}

-- what is left is what was copied, and what is left after it
pub taken_from : (bytes copied rest : List ℕ) (at n : ℕ) → copied ≡ take n (drop at bytes) → length copied ≡ n →
    drop at bytes ≡ take n (copied ++ rest) ++ drop (at + n) bytes
taken_from bytes copied rest at n copy long =
    let seam : take n (copied ++ rest) ≡ copied = rw (← long) (take-append_seam copied rest) in
    rw (seam, copy, ← drop-drop n at bytes) (sym (take-append-drop n (drop at bytes)))

-- the front of bytes that were grown with zeros
pub grown_prefix : (old : List ℕ) (at z : ℕ) → at ≤ length old + z →
    take at (old ++ replicate z 0) ≡ take at old ++ replicate (at - length old) 0
grown_prefix [] zero z within = grind (arith, common_steps)
grown_prefix [] (suc at) z within = let fits : suc at ≤ z = omega arith in
    let all : suc at - 0 ≡ suc at = omega arith in rw all (take-replicate {X = ℕ} (suc at) z 0 fits)
grown_prefix (b ∷ old) zero z within = grind (arith, common_steps)
grown_prefix (b ∷ old) (suc at) z within =
    let fits : at ≤ length old + z = omega arith in
    let less : suc at - suc (length old) ≡ at - length old = omega arith in
    rw less (ap (λ xs. b ∷ xs) (grown_prefix old at z fits))

-- bytes that were grown with zeros have none of them after the place that they were grown to
pub grown_back : (old : List ℕ) (end : ℕ) → drop end (old ++ replicate (end - length old) 0) ≡ drop end old
grown_back [] end =
    let none : end - 0 - end ≡ 0 = omega arith in rw (drop-replicate {X = ℕ} end (end - 0) 0, none) (grind (arith, common_steps))
grown_back (b ∷ old) zero = grind (arith, common_steps)
grown_back (b ∷ old) (suc end) =
    let less : suc end - suc (length old) ≡ end - length old = omega arith in rw less (grown_back old end)

-- a write over bytes that were grown with zeros is the write
pub written_over : (old grown new piece : List ℕ) (at n : ℕ) → 0 < length piece →
    grown ≡ old ++ replicate (at + length piece - length old) 0 →
    new ≡ take at grown ++ piece ++ drop (at + length piece) grown → n ≡ length grown →
    take n (new ++ drop (length new) grown) ≡ written old at piece
written_over old grown new [] at n some grew wrote long = absurd (omega arith)
written_over old grown new (b ∷ piece) at n some grew wrote long =
    let z : ℕ = at + length (b ∷ piece) - length old in
    let size : length grown ≡ length old + z = rw grew (grind (arith, common_steps)) in
    let same : length grown ≡ length new = rw wrote (grind (arith, common_steps)) in
    let prefix : take at grown ≡ take at old ++ replicate (at - length old) 0 = rw grew (grown_prefix old at z (omega arith)) in
    let back : drop (at + length (b ∷ piece)) grown ≡ drop (at + length (b ∷ piece)) old = rw grew (grown_back old (at + length (b ∷ piece))) in
    let whole : take n (new ++ drop (length new) grown) ≡ new = rw (long, same) (take-append_seam new (drop (length new) grown)) in
    whole ∙ wrote ∙ rw (prefix, back) refl

-- the part that comes after a prefix of this length
pub part_behind : (prefix piece back : List ℕ) (at : ℕ) → length prefix ≡ at →
    take (length piece) (drop at (prefix ++ piece ++ back)) ≡ piece
part_behind prefix piece back at size =
    rw (← size, append_assoc prefix piece back, drop-append_seam prefix (piece ++ back)) (take-append_seam piece back)

-- what was written is read again
pub written_back : (bytes : List ℕ) (at : ℕ) (piece : List ℕ) →
    take (length piece) (drop at (written bytes at piece)) ≡ piece
written_back bytes at [] = refl
written_back bytes at (b ∷ piece) =
    part_behind (take at bytes ++ replicate (at - length bytes) 0) (b ∷ piece) (drop (at + length (b ∷ piece)) bytes) at
    (grind (arith, common_steps))
