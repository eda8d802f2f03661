use Rattle.std.proofs.Common.{◌≡◌, ◌∷◌, [], pos, refl}
use Rattle.std.specs.Prelude.{true, false}
use Rattle.bson_model.specs.Tree.{null_value}
use Rattle.pipeline_model.specs.Groups.{sum_cell}
use Rattle.pipeline_model.specs.Runs.{overflow_run, no_stage_run}
use Rattle.pipeline_model.specs.Halves.{in_groups}
use Rattle.pipeline_laws.proofs.SampleRuns.{less}
use Rattle.pipeline_laws.proofs.runs.exact_sums.Goals as goal

not_narrow : sum_cell (pos 3) true ≡ sum_cell (pos 3) false → ⊥
not_narrow e = cc

pub returns-clause-overflow : goal.returns-clause-overflow
returns-clause-overflow c =
    overflow_run _ _ _ (record { key = null_value; cells = sum_cell (pos 9223372036854775808) false ∷ [] } ∷ [])
    (record { each = (record { key = (0, less 0 2 refl, refl); cells = (refl, refl) }, tt); apart = (tt, tt); every = (refl, (refl, tt)) }) refl

pub returns-clause-merged : goal.returns-clause-merged
returns-clause-merged c = record {
  start = _;
  joins = in_groups _ _ (record { key = null_value; cells = sum_cell (pos 0) false ∷ [] } ∷ []) _
      (record { each = (record { key = (0, less 0 2 refl, refl); cells = (refl, refl) }, tt); apart = (tt, tt); every = (refl, (refl, tt)) }) refl;
  goes_on = no_stage_run _;
}

pub returns-clause-narrow : goal.returns-clause-narrow
returns-clause-narrow c = λ e. not_narrow e
