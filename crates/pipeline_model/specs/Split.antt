-- How a pipeline is split into a half and a merge (MongoDB manual, "Aggregation Pipeline Optimization"; "Aggregation Pipeline and
-- Sharded Collections": "$group", "$sort", "$limit" and "$skip" on shards).
use Rattle.std.specs.Prelude.{ℕ, ◌+◌, ◌-◌, ◌^◌, min, List, [], ◌∷◌, ◌++◌}
use Rattle.value_model.specs.Keys.{Span}
use Rattle.query_model.specs.KeySpans.{KeyLimits, no_limits, narrowed_by, spans_of}
use Rattle.pipeline_model.specs.Stages.{Stage, match_stage, project_stage, group_stage, sort_stage, skip_stage, limit_stage, count_stage}
use Rattle.pipeline_model.specs.Halves.{Half, HalfEnd, documents_end, partials_end, counted_end, Merge, joined_in_order, joined_groups, joined_counts, joined_as_they_come}

-- the longest front of $match and $project
abbrev pub front : List Stage → List Stage
front [] = []
front (match_stage asked ∷ rest) = match_stage asked ∷ front rest
front (project_stage rules ∷ rest) = project_stage rules ∷ front rest
front (stage ∷ rest) = []

abbrev pub behind_front : List Stage → List Stage
behind_front [] = []
behind_front (match_stage asked ∷ rest) = behind_front rest
behind_front (project_stage rules ∷ rest) = behind_front rest
behind_front (stage ∷ rest) = stage ∷ rest

-- as many as are skipped and then taken, or the greatest u64
abbrev pub reach : ℕ → ℕ → ℕ
reach skipped taken = min (skipped + taken) (2 ^ 64 - 1)

-- which of the stages after the front the half has, what it returns, and the merge
pub record Cut : Type 0 where
  pub stages : List Stage
  pub last : HalfEnd
  pub merge : Merge

abbrev pub cut : List Stage → Cut
cut (sort_stage spec ∷ skip_stage s ∷ limit_stage n ∷ rest) = record {
  stages = sort_stage spec ∷ limit_stage (reach s n) ∷ [];
  last = documents_end;
  merge = record { joining = joined_in_order spec; stages = skip_stage s ∷ limit_stage n ∷ rest };
}
cut (sort_stage spec ∷ limit_stage n ∷ rest) = record {
  stages = sort_stage spec ∷ limit_stage n ∷ [];
  last = documents_end;
  merge = record { joining = joined_in_order spec; stages = limit_stage n ∷ rest };
}
cut (sort_stage spec ∷ rest) = record { stages = sort_stage spec ∷ []; last = documents_end; merge = record { joining = joined_in_order spec; stages = rest } }
cut (group_stage spec ∷ rest) = record { stages = []; last = partials_end spec; merge = record { joining = joined_groups spec; stages = rest } }
cut (count_stage name ∷ rest) = record { stages = []; last = counted_end; merge = record { joining = joined_counts name; stages = rest } }
cut (skip_stage s ∷ limit_stage n ∷ rest) = record {
  stages = limit_stage (reach s n) ∷ [];
  last = documents_end;
  merge = record { joining = joined_as_they_come; stages = skip_stage s ∷ limit_stage n ∷ rest };
}
cut (limit_stage n ∷ rest) = record {
  stages = limit_stage n ∷ [];
  last = documents_end;
  merge = record { joining = joined_as_they_come; stages = limit_stage n ∷ rest };
}
cut rest = record { stages = []; last = documents_end; merge = record { joining = joined_as_they_come; stages = rest } }

-- what the $match stages before the first other stage say of the keys of documents
abbrev pub narrowed_by_stages : List Stage → KeyLimits → KeyLimits
narrowed_by_stages (match_stage asked ∷ rest) limits = narrowed_by_stages rest (narrowed_by asked limits)
narrowed_by_stages rest limits = limits

-- where the keys of the documents are that pass them
abbrev pub span_of_stages : List Stage → List Span
span_of_stages stages = spans_of (narrowed_by_stages stages no_limits)

abbrev pub split : List Stage → Half × Merge
split stages = (
  record {
    span = span_of_stages stages;
    stages = front stages ++ (cut (behind_front stages)).stages;
    last = (cut (behind_front stages)).last;
  },
  (cut (behind_front stages)).merge,
)
