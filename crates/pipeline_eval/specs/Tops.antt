-- What a sort with a limit keeps while documents are read.
use Rattle.std.specs.Prelude.{◌≡◌, ℕ, ◌-◌, List, ◌++◌, take, drop, Bool, false, cond, IsPermutation, slice_index_or}
use Rattle.std.specs.Ordering.{is_lt}
use Rattle.pipeline_model.specs.SortKeys.{KeyPart, SortSpec, order_keys}
use Rattle.pipeline_model.proofs.TopRows.{AreFirst}
use Rattle.pipeline_eval.specs.declared.sorting.Keyed.{Keyed}
use Rattle.pipeline_eval.specs.Keyed.{keys_before}

-- the first `cut` rows are the first n of some of the documents, and the others are the other documents
pub record IsTop {X : Type 0} (lt : X → X → Bool) (n cut : ℕ) (docs rows : List X) : Type 0 where
  pub before : List X
  pub first : AreFirst lt n before (take cut rows)
  pub others : IsPermutation docs (before ++ drop cut rows)

-- the same for rows by their keys
abbrev pub AreTop : SortSpec → ℕ → Bool → List Keyed → List Keyed → Type 0
AreTop spec n is_cut seen rows = IsTop (keys_before spec) n (cond is_cut n 0) seen rows

-- the key does not sort before that of the last of n rows
abbrev pub CameLate : SortSpec → ℕ → List Keyed → List KeyPart → Type 0
CameLate spec n rows key = (last : Keyed) × (last ≡ slice_index_or rows (n - 1) last) × (is_lt (order_keys spec key last.key) ≡ false)
