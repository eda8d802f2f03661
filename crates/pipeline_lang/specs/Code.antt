-- A code that determines a stage: each of its parts at a position of its own.
use Rattle.std.specs.Prelude.{◌≡◌, ◌⊎◌, ℕ, List, refl}
use Rattle.std.proofs.Common.{inl, inr}
use Rattle.std.specs.Coded.{Coded, code_by, coded⊎, coded_list, coded_ℕ}
use Rattle.query_model.specs.Queries.{Query}
use Rattle.match_expr.specs.Code.{query_code}
use Rattle.projection.specs.Code.{rules_code}
use Rattle.group_accum.specs.Code.{group_code}
use Rattle.sort_keys.specs.Code.{spec_code}
use Rattle.pipeline_model.specs.GroupSpecs.{GroupSpec}
use Rattle.pipeline_model.specs.Projections.{NameRule}
use Rattle.pipeline_model.specs.SortKeys.{SortField}
use Rattle.pipeline_model.specs.Stages.{Stage, match_stage, project_stage, group_stage, sort_stage, skip_stage, limit_stage, count_stage}

abbrev pub StageParts : Type 0
StageParts = Query ⊎ (List NameRule ⊎ (GroupSpec ⊎ (List SortField ⊎ (ℕ ⊎ (ℕ ⊎ List ℕ)))))

abbrev pub stage_parts : Stage → StageParts
stage_parts (match_stage asked) = inl asked
stage_parts (project_stage rules) = inr (inl rules)
stage_parts (group_stage spec) = inr (inr (inl spec))
stage_parts (sort_stage spec) = inr (inr (inr (inl spec)))
stage_parts (skip_stage n) = inr (inr (inr (inr (inl n))))
stage_parts (limit_stage n) = inr (inr (inr (inr (inr (inl n)))))
stage_parts (count_stage name) = inr (inr (inr (inr (inr (inr name)))))

abbrev pub stage_from : StageParts → Stage
stage_from (inl asked) = match_stage asked
stage_from (inr (inl rules)) = project_stage rules
stage_from (inr (inr (inl spec))) = group_stage spec
stage_from (inr (inr (inr (inl spec)))) = sort_stage spec
stage_from (inr (inr (inr (inr (inl n))))) = skip_stage n
stage_from (inr (inr (inr (inr (inr (inl n)))))) = limit_stage n
stage_from (inr (inr (inr (inr (inr (inr name)))))) = count_stage name

abbrev pub stage_back : (s : Stage) → stage_from (stage_parts s) ≡ s
stage_back (match_stage asked) = refl
stage_back (project_stage rules) = refl
stage_back (group_stage spec) = refl
stage_back (sort_stage spec) = refl
stage_back (skip_stage n) = refl
stage_back (limit_stage n) = refl
stage_back (count_stage name) = refl

abbrev pub stage_code : Coded Stage
stage_code =
    code_by StageParts
    (coded⊎ query_code (coded⊎ rules_code (coded⊎ group_code (coded⊎ spec_code (coded⊎ coded_ℕ (coded⊎ coded_ℕ (coded_list coded_ℕ))))))) stage_parts stage_from
    stage_back

abbrev pub stages_code : Coded (List Stage)
stages_code = coded_list stage_code
