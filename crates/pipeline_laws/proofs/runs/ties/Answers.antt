use Rattle.std.proofs.Common.{◌≡◌, List, ◌∷◌, [], refl, sym, subst, arith}
use Rattle.std.specs.Prelude.{true, false, IsSortedBy}
use Rattle.bson_model.specs.Tree.{Fields}
use Rattle.pipeline_model.specs.SortKeys.{comes_before}
use Rattle.std.proofs.lemmas.List.Sorted.{IsPermutation-refl, IsPermutation-middle}
use Rattle.pipeline_model.specs.Runs.{sort_run, no_stage_run, listed}
use Rattle.pipeline_laws.specs.SamplePipelines.{numbered}
use Rattle.pipeline_model.proofs.Fronts.{opened}
use Rattle.pipeline_laws.proofs.SampleRuns.{by, in_order_by, less}
use Rattle.pipeline_laws.proofs.runs.ties.Goals as goal

same_list : {xs ys : List Fields} → listed xs ≡ listed ys → xs ≡ ys
same_list e = cc

not_false : true ≡ false → ⊥
not_false e = cc

wrong_order : (sorted : List Fields) → IsSortedBy (comes_before (by "x")) sorted → listed (numbered 1 2 ∷ numbered 2 1 ∷ []) ≡ listed sorted → ⊥
wrong_order sorted up e =
    not_false ((subst (IsSortedBy (comes_before (by "x"))) (sym (same_list e)) up) 0 (numbered 1 2) (omega arith) (less 1 2 refl))

pub returns-clause-kept : goal.returns-clause-kept
returns-clause-kept c = sort_run _ _ _ _ _ (IsPermutation-refl _) (in_order_by "x" (numbered 1 2 ∷ numbered 2 2 ∷ []) ((refl, tt), (tt, tt))) (no_stage_run _)

pub returns-clause-exchanged : goal.returns-clause-exchanged
returns-clause-exchanged c =
    sort_run _ _ _ _ _ (IsPermutation-middle (numbered 1 2 ∷ []) (numbered 2 2) [])
    (in_order_by "x" (numbered 2 2 ∷ numbered 1 2 ∷ []) ((refl, tt), (tt, tt))) (no_stage_run _)

pub returns-clause-wrong : goal.returns-clause-wrong
returns-clause-wrong c = λ run. wrong_order (opened run).0 (opened run).2 (opened (opened run).3)
