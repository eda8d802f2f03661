-- Equal lists of bytes have equal parts.
use Rattle.std.proofs.Common.{◌≡◌, ℕ, Bool, true, false, List, ◌++◌, length, take, drop, refl, sym, ap, ◌∙◌, arith}
use Rattle.std.proofs.lemmas.List.{take_at, drop_at}
use Rattle.bson_model.specs.Spelling.{boolean_byte}

pub same_prefix : (s t xs ys : List ℕ) → length s ≡ length t → s ++ xs ≡ t ++ ys → (s ≡ t) × (xs ≡ ys)
same_prefix s t xs ys same e = (
  sym (take_at s xs (length s) refl) ∙ ap (λ (l : List ℕ). take (length s) l) e ∙ take_at t ys (length s) (sym same),
  sym (drop_at s xs (length s) refl) ∙ ap (λ (l : List ℕ). drop (length s) l) e ∙ drop_at t ys (length s) (sym same),
)

pub same_boolean : (a b : Bool) → boolean_byte a ≡ boolean_byte b → a ≡ b
same_boolean true true e = refl
same_boolean false false e = refl
same_boolean true false e = absurd (omega arith)
same_boolean false true e = absurd (omega arith)
