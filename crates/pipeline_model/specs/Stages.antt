-- Stages, and which arrays are pipelines (MongoDB manual, "Aggregation Pipeline Stages": each stage's page; "Aggregation Pipeline
-- Limits"). Own: seven stages.
use Rattle.std.specs.Prelude.{ℕ, ℤ, pos, negsuc, List, [], ◌∷◌, length, Bool, true, not, ◌&&◌, ◌||◌, ◌^◌, Result, Ok, Err, ok_or, nat_lt, ◌==◌, codes, if◌then◌else◌}
use Rattle.std.specs.List.{list_any}
use Rattle.std.specs.Str.{byte}
use Rattle.bson_model.specs.Tree.{Datum, document_value, string_value, Items, no_fields, field}
use Rattle.query_model.specs.Paths.{elements, begins_with_dollar}
use Rattle.query_model.specs.Queries.{Query, QueryFault, unknown_operator, bad_operand, named}
use Rattle.query_model.specs.Reading.{◌>>=◌, read_query}
use Rattle.pipeline_model.specs.Operands.{whole_number}
use Rattle.pipeline_model.specs.Projections.{Projection, read_projection}
use Rattle.pipeline_model.specs.SortKeys.{SortSpec, read_sort}
use Rattle.pipeline_model.specs.GroupSpecs.{GroupSpec, is_plain_group, read_group}

pub data Stage : Type 0 where
  match_stage : Query → Stage
  project_stage : Projection → Stage
  group_stage : GroupSpec → Stage
  sort_stage : SortSpec → Stage
  skip_stage : ℕ → Stage
  limit_stage : ℕ → Stage
  count_stage : List ℕ → Stage

-- the constants of a $group have no values inside
abbrev pub is_plain_stage : Stage → Bool
is_plain_stage (group_stage spec) = is_plain_group spec
is_plain_stage stage = true

-- how many documents are passed over or kept is a number that a message can have
abbrev pub has_int64 : Stage → Bool
has_int64 (skip_stage n) = nat_lt n (2 ^ 63)
has_int64 (limit_stage n) = nat_lt n (2 ^ 63)
has_int64 stage = true

pub data StageName : Type 0 where
  match_name : StageName
  project_name : StageName
  group_name : StageName
  sort_name : StageName
  skip_name : StageName
  limit_name : StageName
  count_name : StageName

abbrev pub stage_names : List (List ℕ × StageName)
stage_names =
    (codes "$match", match_name)
    ∷ (codes "$project", project_name)
    ∷ (codes "$group", group_name)
    ∷ (codes "$sort", sort_name)
    ∷ (codes "$skip", skip_name)
    ∷ (codes "$limit", limit_name)
    ∷ (codes "$count", count_name)
    ∷ []

-- a whole number that is not negative; no message has a greater one
abbrev pub as_natural : ℤ → Result ℕ QueryFault
as_natural (pos n) = if nat_lt n (2 ^ 63) then Ok n else Err bad_operand
as_natural (negsuc n) = Err bad_operand

abbrev pub read_natural : Datum → Result ℕ QueryFault
read_natural d = ok_or (whole_number d) bad_operand >>= as_natural

-- not empty, without $ at the front, and without dot and 00
abbrev pub may_count : List ℕ → Bool
may_count name = nat_lt 0 (length name) && not (begins_with_dollar name) && not (list_any (λ b. (b == byte ".") || (b == 0)) name)

abbrev pub read_stage_of : StageName → Datum → Result Stage QueryFault
read_stage_of match_name (document_value ms) = read_query ms >>= λ asked. Ok (match_stage asked)
read_stage_of project_name (document_value ms) = read_projection ms >>= λ rules. Ok (project_stage rules)
read_stage_of group_name (document_value ms) = read_group ms >>= λ spec. Ok (group_stage spec)
read_stage_of sort_name (document_value ms) = read_sort ms >>= λ spec. Ok (sort_stage spec)
read_stage_of skip_name d = read_natural d >>= λ n. Ok (skip_stage n)
read_stage_of limit_name d = read_natural d >>= λ n. if nat_lt 0 n then Ok (limit_stage n) else Err bad_operand
read_stage_of count_name (string_value s) = if may_count s then Ok (count_stage s) else Err bad_operand
read_stage_of name d = Err bad_operand

-- a document of one field, whose name is a stage's
abbrev pub read_stage : Datum → Result Stage QueryFault
read_stage (document_value (field name d no_fields)) = ok_or (named stage_names name) unknown_operator >>= λ which. read_stage_of which d
read_stage d = Err bad_operand

abbrev pub read_stages : List Datum → Result (List Stage) QueryFault
read_stages [] = Ok []
read_stages (d ∷ ds) = do
  first ← read_stage d
  others ← read_stages ds
  Ok (first ∷ others)

abbrev pub most_stages : ℕ
most_stages = 1000

-- the stages that an array is, or the first fault: too many, and then those of the stages in order
abbrev pub read_pipeline : Items → Result (List Stage) QueryFault
read_pipeline stages = if nat_lt most_stages (length (elements stages)) then Err bad_operand else read_stages (elements stages)
