-- Counts of documents, as documents.
use Rattle.std.proofs.Common.{◌≡◌, refl, ap, ◌∙◌, ℕ, zero, suc, ℤ, ◌<◌, ◌≤◌, ◌^◌, List, [], ◌∷◌, Bool, true, false, arith, if◌then◌else◌}
use Rattle.std.specs.Prelude.{codes, pos}
use Rattle.std.proofs.lemmas.Bool.{lt-ltb, le-ltb}
use Rattle.bson_model.specs.Tree.{Datum, int32_value, int64_value, Fields, no_fields, field}
use Rattle.pipeline_model.specs.Runs.{count_documents}
use Rattle.pipeline_model.specs.Groups.{count_value, fits_in}

pub count_short : (z : ℤ) (n : ℕ) → z ≡ pos n → n < 2 ^ 31 → int32_value z ≡ count_value n
count_short z n is small =
    ap (λ (x : ℤ). int32_value x) is ∙ by (fits_in 31 (pos n)) (lt-ltb n (2 ^ 31) small) where
      by : (b : Bool) → b ≡ true → int32_value (pos n) ≡ (if b then int32_value (pos n) else int64_value (pos n))
      by b e = rw e refl

pub count_long : (z : ℤ) (n : ℕ) → z ≡ pos n → 2 ^ 31 ≤ n → int64_value z ≡ count_value n
count_long z n is great =
    ap (λ (x : ℤ). int64_value x) is ∙ by (fits_in 31 (pos n)) (le-ltb n (2 ^ 31) great) where
      by : (b : Bool) → b ≡ false → int64_value (pos n) ≡ (if b then int32_value (pos n) else int64_value (pos n))
      by b e = rw e refl

-- one document with a number
pub count_of_one : (document : Fields) (name : List ℕ) (value : Datum) (n : ℕ) → document ≡ field name value no_fields → name ≡ codes "n" → value ≡ count_value n → 0 < n
    → document ∷ [] ≡ count_documents (codes "n") n
count_of_one document name value zero is named told some = absurd (omega (arith, some))
count_of_one document name value (suc n) is named told some = ap (λ (d : Fields). d ∷ []) (is ∙ rw (named, told) refl)
