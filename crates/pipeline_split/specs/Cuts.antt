-- How stages are cut, step by step.
use Rattle.std.specs.Prelude.{ℕ, List, [], ◌∷◌, map, Bool, true, false, Option, Some, None}
use Rattle.pipeline_model.specs.Halves.{documents_end, joined_as_they_come}
use Rattle.pipeline_model.specs.Split as model
use Rattle.pipeline_model.specs.Split.{reach}
use Rattle.pipeline_model.specs.Stages.{Stage, match_stage, project_stage, skip_stage, limit_stage}
use Rattle.pipeline_lang.specs.Halves.{end_of, merge_of}
use Rattle.pipeline_lang.specs.View.{stage_of}
use Rattle.pipeline_split.specs.declared.cuts.Cut.{Cut}

-- whether a stage acts on each document by itself
abbrev pub acts_alone : Stage → Bool
acts_alone (match_stage asked) = true
acts_alone (project_stage rules) = true
acts_alone stage = false

abbrev pub cut_of : Cut → model.Cut
cut_of c = record { stages = map stage_of c.stages.items; last = end_of c.last; merge = merge_of c.merge }

-- how many documents at the front are enough for stages that begin with a limit, or with a skip and a limit
abbrev pub limit_in : List Stage → Option ℕ
limit_in (limit_stage n ∷ rest) = Some n
limit_in (skip_stage s ∷ limit_stage n ∷ rest) = Some (reach s n)
limit_in rest = None

abbrev pub limit_stages : Option ℕ → List Stage
limit_stages None = []
limit_stages (Some n) = limit_stage n ∷ []

-- the half gives the documents, and the merge has all the stages
abbrev pub plain_cut : List Stage → model.Cut
plain_cut rest = record { stages = limit_stages (limit_in rest); last = documents_end; merge = record { joining = joined_as_they_come; stages = rest } }
