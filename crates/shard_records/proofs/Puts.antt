-- How the bytes grow: what is written comes after what was there.
use Rattle.std.proofs.Common.{◌≡◌, List, ℕ, ◌++◌, ap, ◌∙◌, append_assoc}
use Rattle.std.specs.Prelude.{Result, Ok, Err, OnOk}

-- one part, and the others after it
pub then : (old part rest : List ℕ) {mid new : List ℕ} → mid ≡ old ++ part → new ≡ mid ++ rest → new ≡ old ++ (part ++ rest)
then old part rest first others = others ∙ ap (λ (m : List ℕ). m ++ rest) first ∙ append_assoc old part rest

-- two facts of what was done
pub both_ok : {T E : Type 0} (P Q : Type 0) (done : Result T E) → OnOk done P → OnOk done Q → OnOk done (P × Q)
both_ok P Q (Ok x) p q = (p, q)
both_ok P Q (Err e) p q = tt
