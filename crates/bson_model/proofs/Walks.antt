-- A walk over bytes has one end.
use Rattle.std.proofs.Common.{◌≡◌, ℕ, Bool, cond, List, [], sym, subst, refl, rules}
use Rattle.std.specs.Str.{IsUtf8, is_utf8}
use Rattle.std.proofs.lemmas.Str.{is_utf8-from_IsUtf8}
use Rattle.bson_model.specs.Faults.{Step, faulty, string_fault, Walks, walks_to_end, walks_to_fault, walks_on}

pub one_outcome : (bytes : List ℕ) (s a b : Step) → Walks bytes s a → Walks bytes s b → a ≡ b
one_outcome bytes _ _ _ (walks_to_end offset) (walks_to_end _) = refl
one_outcome bytes _ _ _ (walks_to_fault fault offset) (walks_to_fault _ _) = refl
one_outcome bytes _ a b (walks_on offset h outer _ first) (walks_on _ _ _ _ second) = one_outcome bytes _ a b first second

no_bytes_are_utf8 : IsUtf8 []
no_bytes_are_utf8 = search rules

-- after an empty name
pub behind_no_name : (bytes : List ℕ) (offset : ℕ) (step outcome : Step) → Walks bytes step outcome → Walks bytes (cond (is_utf8 []) step (faulty string_fault offset)) outcome
behind_no_name bytes offset step outcome w = subst (λ (b : Bool). Walks bytes (cond b step (faulty string_fault offset)) outcome) (sym (is_utf8-from_IsUtf8 [] no_bytes_are_utf8)) w
