-- Bytes that are documents, one after the other.
use Rattle.std.proofs.Common.{◌≡◌, ℕ, zero, suc, ◌+◌, ◌-◌, ◌<◌, ◌≤◌, Bool, true, false, Option, Some, None, List, [], ◌∷◌, length, drop, refl, sym, ap, ◌∙◌, arith, length-drop}
use Rattle.std.specs.Prelude.{nat_le, ◌&&◌, if◌then◌else◌}
use Rattle.std.specs.Bool.{Decides}
use Rattle.std.proofs.lemmas.Bool.Decides.{Decides-and, nat_tests}
use Rattle.opmsg_model.specs.Messages.{number_at}
use Rattle.std.specs.Str.{is_utf8}
use Rattle.bson_model.specs.Faults.{before_zero}
use Rattle.opmsg_model.specs.Outline.{has_stated, are_documents, is_named, is_sequence}
use Rattle.opmsg_frames.specs.Outlines.{parts_by, parts_if, sequence_parts}

decides_le : (a b : ℕ) → Decides (nat_le a b) (a ≤ b)
decides_le a b = (λ e. grind (arith, nat_tests), λ h. grind (arith, nat_tests))

-- the length that was found
pub within : (bytes : List ℕ) → has_stated bytes ≡ true → (5 ≤ number_at 0 bytes) × (number_at 0 bytes ≤ length bytes)
within bytes e =
    let p = (Decides-and _ _ (Decides-and _ _ (decides_le 5 (length bytes)) (decides_le 5 (number_at 0 bytes))) (decides_le (number_at 0 bytes) (length bytes))).0 e in
    (p.0.1, p.1)

-- the bytes that are left are documents exactly where all bytes are
pub record AsBefore (rest bytes : List ℕ) (n m : ℕ) : Type 0 where
  pub enough : length rest ≤ m
  pub same : are_documents m rest ≡ are_documents n bytes

pub none_left : (m : ℕ) → are_documents m [] ≡ true
unfolding are_documents
none_left zero = refl
none_left (suc m) = refl

pub step : (m : ℕ) (bytes : List ℕ) → 0 < length bytes → length bytes ≤ m → are_documents m bytes ≡ (if has_stated bytes then are_documents (m - 1) (drop (number_at 0 bytes) bytes) else false)
unfolding are_documents
step m [] some enough = absurd (omega arith)
step zero (b ∷ bytes) some enough = absurd (omega arith)
step (suc m) (b ∷ bytes) some enough = let e : suc m - 1 ≡ m = omega arith in rw e refl

pub goes_on : (rest bytes : List ℕ) (n m : ℕ) → AsBefore rest bytes n m → 0 < length rest → has_stated rest ≡ true → AsBefore (drop (number_at 0 rest) rest) bytes n (m - 1)
goes_on rest bytes n m so_far some stated =
    let w = within rest stated in
    record {
      enough = omega (arith, so_far.enough, w.0, w.1, length-drop (number_at 0 rest) rest);
      same = sym (rw stated at (step m rest some so_far.enough)) ∙ so_far.same;
    }

pub stops : (rest bytes : List ℕ) (n m : ℕ) → AsBefore rest bytes n m → 0 < length rest → has_stated rest ≡ false → false ≡ are_documents n bytes
stops rest bytes n m so_far some stated = sym (rw stated at (step m rest some so_far.enough)) ∙ so_far.same

pub ends : (rest bytes : List ℕ) (n m : ℕ) → AsBefore rest bytes n m → length rest ≡ 0 → true ≡ are_documents n bytes
ends [] bytes n m so_far none = sym (none_left m) ∙ so_far.same
ends (b ∷ rest) bytes n m so_far none = absurd (omega arith)

abbrev behind_in : Option (List ℕ × List ℕ) → List ℕ
behind_in None = []
behind_in (Some parts) = parts.1

-- an identifier, 00 and documents
pub named : (content name documents : List ℕ) (answer : Bool) → Some (name, documents) ≡ sequence_parts content → length documents ≤ length content → ((n : ℕ) → length documents ≤ n → answer ≡ are_documents n documents) → answer ≡ is_sequence content
named content name documents answer e short a = by_name (before_zero content) e
  where
    by_text : (found : List ℕ) (b : Bool) → is_utf8 found ≡ b → Some (name, documents) ≡ parts_if b content found → answer ≡ (b && are_documents (length content) (drop (length found + 1) content))
    by_text found true t p = let d : documents ≡ drop (length found + 1) content = ap (λ (parts : Option (List ℕ × List ℕ)). behind_in parts) p in rw (sym d) (a (length content) short)
    by_text found false t p = absurd (let q : Some (name, documents) ≡ None = p in cc)

    by_name : (found : Option (List ℕ)) → Some (name, documents) ≡ parts_by content found → answer ≡ is_named content found
    by_name None p = absurd (let q : Some (name, documents) ≡ None = p in cc)
    by_name (Some found) p = by_text found (is_utf8 found) refl p

pub unnamed : (content : List ℕ) → None ≡ sequence_parts content → false ≡ is_sequence content
unnamed content e = by_name (before_zero content) e
  where
    by_text : (found : List ℕ) (b : Bool) → None ≡ parts_if b content found → false ≡ (b && are_documents (length content) (drop (length found + 1) content))
    by_text found true p = absurd (let q : None ≡ Some (found, drop (length found + 1) content) = p in cc)
    by_text found false p = refl

    by_name : (found : Option (List ℕ)) → None ≡ parts_by content found → false ≡ is_named content found
    by_name None p = refl
    by_name (Some found) p = by_text found (is_utf8 found) p
