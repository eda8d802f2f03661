-- Which answers a pipeline has on a list of documents (MongoDB manual, "Aggregation Pipeline", "Aggregation Pipeline Stages": each
-- stage's page), by its first stage. `$sort` leaves the order of ties open, `$group` that of its rows.
use Rattle.std.specs.Prelude.{◌≡◌, ℕ, zero, suc, List, [], ◌∷◌, map, take, drop, length, filter, IsPermutation, IsSortedBy, Some, None}
use Rattle.bson_model.specs.Tree.{Fields, no_fields, field}
use Rattle.query_model.specs.Queries.{Query}
use Rattle.query_model.specs.Holds.{holds}
use Rattle.pipeline_model.specs.Projections.{Projection, project}
use Rattle.pipeline_model.specs.SortKeys.{SortSpec, comes_before}
use Rattle.pipeline_model.specs.GroupSpecs.{GroupSpec}
use Rattle.pipeline_model.specs.Groups.{PartialRow, IsGrouped, documents_of, count_value}
use Rattle.pipeline_model.specs.Stages.{Stage, match_stage, project_stage, group_stage, sort_stage, skip_stage, limit_stage, count_stage}

pub data Outcome : Type 0 where
  listed : List Fields → Outcome
  -- some sum was outside int64
  overflowed : Outcome

-- one document with the number, and none for 0
abbrev pub count_documents : List ℕ → ℕ → List Fields
count_documents name zero = []
count_documents name (suc n) = field name (count_value (suc n)) no_fields ∷ []

-- the stages, on the documents in this order, have this outcome
pub data Runs : List Stage → List Fields → Outcome → Type 0 where
  no_stage_run : (docs : List Fields) → Runs [] docs (listed docs)
  match_run : (asked : Query) (rest : List Stage) (docs : List Fields) (out : Outcome) →
      Runs rest (filter (holds asked) docs) out → Runs (match_stage asked ∷ rest) docs out
  project_run : (rules : Projection) (rest : List Stage) (docs : List Fields) (out : Outcome) →
      Runs rest (map (project rules) docs) out → Runs (project_stage rules ∷ rest) docs out
  -- some order in which none comes before the one before it
  sort_run : (spec : SortSpec) (rest : List Stage) (docs sorted : List Fields) (out : Outcome) →
      IsPermutation docs sorted → IsSortedBy (comes_before spec) sorted → Runs rest sorted out → Runs (sort_stage spec ∷ rest) docs out
  skip_run : (n : ℕ) (rest : List Stage) (docs : List Fields) (out : Outcome) → Runs rest (drop n docs) out → Runs (skip_stage n ∷ rest) docs out
  limit_run : (n : ℕ) (rest : List Stage) (docs : List Fields) (out : Outcome) → Runs rest (take n docs) out → Runs (limit_stage n ∷ rest) docs out
  count_run : (name : List ℕ) (rest : List Stage) (docs : List Fields) (out : Outcome) →
      Runs rest (count_documents name (length docs)) out → Runs (count_stage name ∷ rest) docs out
  group_run : (spec : GroupSpec) (rest : List Stage) (docs : List Fields) (rows : List PartialRow) (documents : List Fields) (out : Outcome) →
      IsGrouped spec docs rows → documents_of spec rows ≡ Some documents → Runs rest documents out → Runs (group_stage spec ∷ rest) docs out
  overflow_run : (spec : GroupSpec) (rest : List Stage) (docs : List Fields) (rows : List PartialRow) →
      IsGrouped spec docs rows → documents_of spec rows ≡ None → Runs (group_stage spec ∷ rest) docs overflowed

-- the same from the documents in some order
pub record Allows (stages : List Stage) (docs : List Fields) (out : Outcome) : Type 0 where
  pub ordered : List Fields
  pub permutes : IsPermutation docs ordered
  pub runs : Runs stages ordered out
