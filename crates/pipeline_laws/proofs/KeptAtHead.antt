-- The documents that the filter at the head of a half's stages removes add nothing to what the half returns.
use Rattle.std.proofs.Common.{◌≡◌, List, [], ◌∷◌, refl, sym, ap, subst, ◌∙◌}
use Rattle.std.specs.Prelude.{Bool, true, false, filter, ◌↔◌, if◌then◌else◌}
use Rattle.bson_model.specs.Tree.{Fields}
use Rattle.query_model.specs.Holds.{holds}
use Rattle.pipeline_model.specs.Stages.{Stage, match_stage}
use Rattle.pipeline_model.specs.Runs.{Outcome, listed, Runs, match_run}
use Rattle.pipeline_model.specs.Halves.{Half, Rows, IsHalf, kept_at_head}
use Rattle.pipeline_model.proofs.Fronts.{opened}

twice_kept : {X : Type 0} (test : X → Bool) (xs : List X) → filter test (filter test xs) ≡ filter test xs
twice_kept test [] = refl
twice_kept {X} test (x ∷ xs) = by_test (test x) refl (twice_kept test xs)
  where
    by_test : (b : Bool) → test x ≡ b → filter test (filter test xs) ≡ filter test xs →
        filter test (if b then x ∷ filter test xs else filter test xs) ≡ (if b then x ∷ filter test xs else filter test xs)
    by_test true e rest =
        ap (λ (c : Bool). if c then x ∷ filter test (filter test xs) else filter test (filter test xs)) e ∙ ap (λ (l : List X). x ∷ l) rest
    by_test false e rest = rest

runs_of_kept : (stages : List Stage) (docs : List Fields) (out : Outcome) → Runs stages (kept_at_head stages docs) out ↔ Runs stages docs out
runs_of_kept [] docs out = (λ h. h, λ h. h)
runs_of_kept (match_stage asked ∷ rest) docs out = (
  λ h. match_run asked rest docs out (subst (λ l. Runs rest l out) (twice_kept (holds asked) docs) (opened h)),
  λ h. match_run asked rest (filter (holds asked) docs) out (subst (λ l. Runs rest l out) (sym (twice_kept (holds asked) docs)) (opened h)),
)
runs_of_kept (stage ∷ rest) docs out = (λ h. h, λ h. h)

pub half_of_kept : (half : Half) (docs : List Fields) (rows : Rows) → IsHalf half (kept_at_head half.stages docs) rows ↔ IsHalf half docs rows
half_of_kept half docs rows = (
  λ h. record { left = h.left; runs = (runs_of_kept half.stages docs (listed h.left)).0 h.runs; ends = h.ends },
  λ h. record { left = h.left; runs = (runs_of_kept half.stages docs (listed h.left)).1 h.runs; ends = h.ends },
)
