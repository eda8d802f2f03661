-- From the joined parts to what is returned.
use Rattle.std.proofs.Common.{◌≡◌, ℕ, List, Result, Ok, Err, sym, ap, ◌∙◌, subst}
use Rattle.std.specs.Prelude.{IsPermutation, IsSortedBy, Some, None, flat_map, sum_by}
use Rattle.std.specs.List.Sorted.{IsStableBy}
use Rattle.bson_values.specs.Tree.{Fields}
use Rattle.pipeline_model.specs.GroupSpecs.{GroupSpec}
use Rattle.pipeline_model.specs.Groups.{IsJoined, PartialRow, documents_of}
use Rattle.pipeline_model.specs.Halves.{IsInTurn, Joins, Merge, Rows, as_they_come, count_in_part, documents_in_part, in_groups, in_order, in_overflow, in_sum, joined_groups, joined_in_order, joined_counts, joined_as_they_come, partials_in_part}
use Rattle.pipeline_model.specs.Runs.{count_documents, listed, overflowed}
use Rattle.pipeline_model.specs.SortKeys.{SortSpec, comes_before}
use Rattle.pipeline_eval.specs.Evals.{Answers}
use Rattle.pipeline_eval.specs.declared.fault.EvalFault.{EvalFault}
use Rattle.pipeline_eval.specs.declared.fault.EvalFault.TheVariants.{Overflow, TooMuch, Memory}
use Rattle.group_merge.specs.Merged.{MergeAnswers}

module _ {Y : Type 0} (look : Y → List Fields) (merge : Merge) (parts : List Rows) where
  -- the stages run on the joined parts
  pub goes_on : (docs : List Fields) (result : Result Y EvalFault) → Joins merge.joining parts (listed docs) × IsInTurn merge.joining parts (listed docs) →
      Answers look merge.stages docs result → MergeAnswers look merge parts result
  goes_on docs (Ok y) h a = (record { merges = record { start = listed docs; joins = h.0; goes_on = a.0 }; in_turn = h.1 }, a.1)
  goes_on docs (Err Overflow) h a = record { merges = record { start = listed docs; joins = h.0; goes_on = a }; in_turn = h.1 }
  goes_on docs (Err (TooMuch n)) h a = (a.0, record { merges = record { start = listed docs; joins = h.0; goes_on = a.1 }; in_turn = h.1 }, a.2)
  goes_on docs (Err Memory) h a = tt

-- What the parts are joined to, by the way of joining.
pub in_order_joined : (spec : SortSpec) (parts : List Rows) (all docs : List Fields) → all ≡ flat_map documents_in_part parts → IsPermutation all docs →
    IsSortedBy (comes_before spec) docs → IsStableBy (comes_before spec) all docs →
    Joins (joined_in_order spec) parts (listed docs) × IsInTurn (joined_in_order spec) parts (listed docs)
in_order_joined spec parts all docs are moved sorted stable = (
  in_order spec parts docs (subst (λ (l : List Fields). IsPermutation l docs) are moved) sorted,
  subst (λ (l : List Fields). IsStableBy (comes_before spec) l docs) are stable,
)

module _ (spec own : GroupSpec) (parts : List Rows) (rows : List PartialRow) (same : own ≡ spec)
    (joined : IsJoined own (flat_map partials_in_part parts) rows) where
  there : IsJoined spec (flat_map partials_in_part parts) rows
  there = subst (λ (s : GroupSpec). IsJoined s (flat_map partials_in_part parts) rows) same joined

  pub groups_joined : (by : GroupSpec) (docs : List Fields) → by ≡ own → documents_of by rows ≡ Some docs →
      Joins (joined_groups spec) parts (listed docs) × IsInTurn (joined_groups spec) parts (listed docs)
  groups_joined by docs is shown =
      (in_groups spec parts rows docs there (subst (λ (s : GroupSpec). documents_of s rows ≡ Some docs) (is ∙ same) shown), tt)

  pub groups_overflow : (by : GroupSpec) → by ≡ own → documents_of by rows ≡ None → Joins (joined_groups spec) parts overflowed
  groups_overflow by is none = in_overflow spec parts rows there (subst (λ (s : GroupSpec). documents_of s rows ≡ None) (is ∙ same) none)

pub counts_joined : (name : List ℕ) (parts : List Rows) (n : ℕ) (docs : List Fields) → docs ≡ count_documents name n → n ≡ sum_by count_in_part parts →
    Joins (joined_counts name) parts (listed docs) × IsInTurn (joined_counts name) parts (listed docs)
counts_joined name parts n docs is whole =
    (subst (λ (l : List Fields). Joins (joined_counts name) parts (listed l)) (sym (is ∙ ap (λ (m : ℕ). count_documents name m) whole)) (in_sum name parts), tt)

pub come_joined : (parts : List Rows) (docs : List Fields) → docs ≡ flat_map documents_in_part parts →
    Joins joined_as_they_come parts (listed docs) × IsInTurn joined_as_they_come parts (listed docs)
come_joined parts docs is = (subst (λ (l : List Fields). Joins joined_as_they_come parts (listed l)) (sym is) (as_they_come parts), tt)
