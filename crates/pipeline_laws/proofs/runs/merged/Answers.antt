use Rattle.std.proofs.Common.{◌∷◌, [], refl}
use Rattle.std.proofs.lemmas.List.Sorted.{IsPermutation-cons, IsPermutation-middle}
use Rattle.pipeline_model.specs.Runs.{listed, skip_run, limit_run, no_stage_run}
use Rattle.pipeline_model.specs.Halves.{in_order, in_sum, as_they_come}
use Rattle.pipeline_laws.specs.SamplePipelines.{numbered}
use Rattle.pipeline_laws.proofs.SampleRuns.{in_order_by}
use Rattle.pipeline_laws.proofs.runs.merged.Goals as goal

pub returns-clause-sorted : goal.returns-clause-sorted
returns-clause-sorted c = record {
  start = listed (numbered 1 1 ∷ numbered 11 1 ∷ numbered 2 2 ∷ numbered 3 2 ∷ numbered 12 2 ∷ []);
  joins = in_order _ _ _
      (IsPermutation-cons (numbered 1 1) _ _ (IsPermutation-middle (numbered 2 2 ∷ numbered 3 2 ∷ []) (numbered 11 1) (numbered 12 2 ∷ [])))
      (in_order_by "x" (numbered 1 1 ∷ numbered 11 1 ∷ numbered 2 2 ∷ numbered 3 2 ∷ numbered 12 2 ∷ [])
      ((refl, (refl, (refl, (refl, tt)))), ((refl, (refl, (refl, tt))), ((refl, (refl, tt)), ((refl, tt), (tt, tt))))));
  goes_on = skip_run _ _ _ _ (limit_run _ _ _ _ (no_stage_run _));
}

pub returns-clause-counts : goal.returns-clause-counts
returns-clause-counts c = record { start = _; joins = in_sum _ _; goes_on = no_stage_run _ }

pub returns-clause-no_part : goal.returns-clause-no_part
returns-clause-no_part c = record { start = _; joins = in_sum _ _; goes_on = no_stage_run _ }

pub returns-clause-as_they_come : goal.returns-clause-as_they_come
returns-clause-as_they_come c = record { start = _; joins = as_they_come _; goes_on = limit_run _ _ _ _ (no_stage_run _) }
