use Rattle.std.proofs.Common.{◌∷◌, [], refl, pos}
use Rattle.std.specs.Prelude.{true}
use Rattle.std.proofs.lemmas.List.Sorted.{IsPermutation-refl}
use Rattle.query_model.specs.SampleQueries.{number}
use Rattle.pipeline_model.specs.Groups.{sum_cell}
use Rattle.pipeline_model.specs.Runs.{match_run, group_run, sort_run, no_stage_run}
use Rattle.pipeline_laws.specs.SamplePipelines.{doc}
use Rattle.pipeline_laws.proofs.SampleRuns.{in_order_by, less}
use Rattle.pipeline_laws.proofs.runs.worked.Goals as goal

pub returns : goal.returns
returns c =
    match_run _ _ _ _
    (group_run _ _ _ (record { key = number 2; cells = sum_cell (pos 3) true ∷ [] } ∷ record { key = number 5; cells = sum_cell (pos 3) true ∷ [] } ∷ []) _ _
    (record {
      each = (record { key = (0, less 0 3 refl, refl); cells = (refl, refl) }, (record { key = (2, less 2 3 refl, refl); cells = (refl, refl) }, tt));
      apart = ((refl, tt), (tt, tt));
      every = (refl, (refl, (refl, tt)));
    })
    refl
    (sort_run _ _ _ _ _ (IsPermutation-refl _) (in_order_by "_id"
    (doc (("_id", number 2) ∷ ("total", number 3) ∷ []) ∷ doc (("_id", number 5) ∷ ("total", number 3) ∷ []) ∷ []) ((refl, tt), (tt, tt)))
    (no_stage_run _)))
