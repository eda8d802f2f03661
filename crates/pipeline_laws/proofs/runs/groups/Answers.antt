use Rattle.std.proofs.Common.{◌≡◌, ◌∷◌, [], refl}
use Rattle.std.specs.Prelude.{true, false}
use Rattle.pipeline_model.specs.Runs.{group_run, count_run, skip_run, no_stage_run}
use Rattle.query_model.specs.SampleChanges.{long}
use Rattle.pipeline_laws.proofs.SampleRuns.{less}
use Rattle.pipeline_laws.proofs.runs.groups.Goals as goal

not_false : true ≡ false → ⊥
not_false e = cc

pub returns-clause-nothing : goal.returns-clause-nothing
returns-clause-nothing c = group_run _ _ _ [] [] _ (record { each = tt; apart = tt; every = tt }) refl (no_stage_run _)

pub returns-clause-none_counted : goal.returns-clause-none_counted
returns-clause-none_counted c = count_run _ _ _ _ (no_stage_run _)

pub returns-clause-counted : goal.returns-clause-counted
returns-clause-counted c = skip_run _ _ _ _ (count_run _ _ _ _ (no_stage_run _))

pub returns-clause-spelled : goal.returns-clause-spelled
returns-clause-spelled c =
    group_run _ _ _ (record { key = long 5; cells = [] } ∷ []) _ _
    (record { each = (record { key = (1, less 1 2 refl, refl); cells = refl }, tt); apart = (tt, tt); every = (refl, (refl, tt)) }) refl (no_stage_run _)

pub returns-clause-not_apart : goal.returns-clause-not_apart
returns-clause-not_apart c = λ grouped. not_false grouped.apart.0.0
