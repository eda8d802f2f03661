-- The batches of a cursor (MongoDB manual, "Cursor Batches", "getMore"): as many of the documents that remain as the size that is
-- given and 16,777,216 bytes allow. Own: a document of any length is a batch by itself.
use Rattle.std.specs.Prelude.{◌≡◌, ℕ, ◌≤◌, List, length, take, Option, IfSome, ◌⊎◌}
use Rattle.bson_model.specs.Tree.{Fields}
use Rattle.bson_model.specs.Limits.{most_bytes_kept}
use Rattle.pipeline_model.specs.Lengths.{documents_length}

-- within the number that is given
abbrev pub IsFew : Option ℕ → ℕ → Type 0
IsFew size n = IfSome size (λ most. n ≤ most)

-- one document, or few bytes
abbrev pub IsSmall : List Fields → Type 0
IsSmall batch = (length batch ≤ 1) ⊎ (documents_length batch ≤ most_bytes_kept)

-- so many of the documents that remain are few and small enough
pub record MayBeBatch (size : Option ℕ) (remaining : List Fields) (n : ℕ) : Type 0 where
  pub there : n ≤ length remaining
  pub few : IsFew size n
  pub small : IsSmall (take n remaining)

-- the front of what remains, as long as may be
pub record IsBatch (size : Option ℕ) (remaining batch : List Fields) : Type 0 where
  pub front : batch ≡ take (length batch) remaining
  pub allowed : MayBeBatch size remaining (length batch)
  pub longest : (n : ℕ) → MayBeBatch size remaining n → n ≤ length batch
