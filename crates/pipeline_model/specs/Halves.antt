-- The half of a pipeline that each part of the documents gets, and the merge of what the halves gave (MongoDB manual, "Aggregation
-- Pipeline and Sharded Collections").
use Rattle.std.specs.Prelude.{◌≡◌, ℕ, List, [], ◌∷◌, length, filter, flat_map, sum_by, IsPermutation, IsSortedBy, Bool, true, Some, None, Ok, Err}
use Rattle.std.specs.List.Sorted.{IsStableBy}
use Rattle.bson_model.specs.Tree.{Fields}
use Rattle.value_model.specs.Keys.{Span, inside_some, valid_key}
use Rattle.query_model.specs.Holds.{holds}
use Rattle.pipeline_model.specs.SortKeys.{SortSpec, comes_before}
use Rattle.pipeline_model.specs.GroupSpecs.{GroupSpec}
use Rattle.pipeline_model.specs.Groups.{PartialRow, IsGrouped, IsJoined, documents_of}
use Rattle.pipeline_model.specs.Stages.{Stage, match_stage}
use Rattle.pipeline_model.specs.Runs.{Outcome, listed, overflowed, Runs, count_documents}

-- what a half gives
pub data Rows : Type 0 where
  document_rows : List Fields → Rows
  partial_rows : List PartialRow → Rows
  counted_rows : ℕ → Rows

-- what it returns of the documents after its stages
pub data HalfEnd : Type 0 where
  documents_end : HalfEnd
  partials_end : GroupSpec → HalfEnd
  counted_end : HalfEnd

pub record Half : Type 0 where
  -- ranges and points; no document with a key outside adds anything
  pub span : List Span
  pub stages : List Stage
  pub last : HalfEnd

pub data EndsIn : HalfEnd → List Fields → Rows → Type 0 where
  in_documents : (docs : List Fields) → EndsIn documents_end docs (document_rows docs)
  in_partials : (spec : GroupSpec) (docs : List Fields) (rows : List PartialRow) → IsGrouped spec docs rows →
      EndsIn (partials_end spec) docs (partial_rows rows)
  in_count : (docs : List Fields) → EndsIn counted_end docs (counted_rows (length docs))

-- a half gives these rows of the documents
pub record IsHalf (half : Half) (docs : List Fields) (rows : Rows) : Type 0 where
  pub left : List Fields
  pub runs : Runs half.stages docs (listed left)
  pub ends : EndsIn half.last left rows

-- the documents that may be in the span: those with a key outside are not
abbrev pub may_stand_in : List Span → Fields → Bool
may_stand_in span document = elim (valid_key document) [ Ok key ↦ inside_some span key | Err fault ↦ true ]

-- the documents that match the filter at the head of some stages, where there is one
abbrev pub kept_at_head : List Stage → List Fields → List Fields
kept_at_head (match_stage asked ∷ rest) docs = filter (holds asked) docs
kept_at_head stages docs = docs

-- how rows are put together
pub data Joining : Type 0 where
  joined_in_order : SortSpec → Joining
  joined_groups : GroupSpec → Joining
  joined_counts : List ℕ → Joining
  joined_as_they_come : Joining

pub record Merge : Type 0 where
  pub joining : Joining
  pub stages : List Stage

abbrev pub documents_in_part : Rows → List Fields
documents_in_part (document_rows docs) = docs
documents_in_part rows = []

abbrev pub partials_in_part : Rows → List PartialRow
partials_in_part (partial_rows rows) = rows
partials_in_part rows = []

abbrev pub count_in_part : Rows → ℕ
count_in_part (counted_rows n) = n
count_in_part rows = 0

-- what a merge proceeds from
pub data Joins : Joining → List Rows → Outcome → Type 0 where
  in_order : (spec : SortSpec) (parts : List Rows) (sorted : List Fields) →
      IsPermutation (flat_map documents_in_part parts) sorted → IsSortedBy (comes_before spec) sorted → Joins (joined_in_order spec) parts (listed sorted)
  in_groups : (spec : GroupSpec) (parts : List Rows) (rows : List PartialRow) (documents : List Fields) →
      IsJoined spec (flat_map partials_in_part parts) rows → documents_of spec rows ≡ Some documents → Joins (joined_groups spec) parts (listed documents)
  in_overflow : (spec : GroupSpec) (parts : List Rows) (rows : List PartialRow) →
      IsJoined spec (flat_map partials_in_part parts) rows → documents_of spec rows ≡ None → Joins (joined_groups spec) parts overflowed
  in_sum : (name : List ℕ) (parts : List Rows) → Joins (joined_counts name) parts (listed (count_documents name (sum_by count_in_part parts)))
  as_they_come : (parts : List Rows) → Joins joined_as_they_come parts (listed (flat_map documents_in_part parts))

abbrev pub GoesOn : List Stage → Outcome → Outcome → Type 0
GoesOn stages (listed docs) out = Runs stages docs out
GoesOn stages overflowed out = out ≡ overflowed

-- the parts are merged, and the stages proceed from there
pub record Merges (merge : Merge) (parts : List Rows) (out : Outcome) : Type 0 where
  pub start : Outcome
  pub joins : Joins merge.joining parts start
  pub goes_on : GoesOn merge.stages start out

-- documents that compare equal are in the order of their parts, and then of their places
abbrev pub IsInTurn : Joining → List Rows → Outcome → Type 0
IsInTurn (joined_in_order spec) parts (listed sorted) = IsStableBy (comes_before spec) (flat_map documents_in_part parts) sorted
IsInTurn joining parts start = Unit {0}

pub record MergesInTurn (merge : Merge) (parts : List Rows) (out : Outcome) : Type 0 where
  pub merges : Merges merge parts out
  pub in_turn : IsInTurn merge.joining parts merges.start
