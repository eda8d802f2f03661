use Rattle.std.proofs.Common.{ap, rules}
use Rattle.std.specs.Ordering.{is_lt}
use Rattle.std.proofs.lemmas.List.MinMax.{ranks_by}
use Rattle.std.proofs.lemmas.Fn.{always_returns_same}
use Rattle.pipeline_model.proofs.SortOrder.{keys_total}
use Rattle.pipeline_eval.specs.declared.sorting.Keyed.{Keyed}
use Rattle.pipeline_eval.specs.Keyed.{keys_before}
use Rattle.pipeline_eval.proofs.sorting.sort_rows.Goals as goal

pub returns-clause-sorted : goal.returns-clause-sorted
returns-clause-sorted c =
    c.in_ok-sort_by.ensures.sorted (keys_before c.args.spec.now) (ranks_by (keys_total c.args.spec.now) (λ (row : Keyed). row.key))
    (always_returns_same _ _ _ (λ a r g t. (ap is_lt (search rules), search rules)))

pub returns-clause-stable : goal.returns-clause-stable
returns-clause-stable c =
    c.sort_by.ensures.stable (keys_before c.args.spec.now) (ranks_by (keys_total c.args.spec.now) (λ (row : Keyed). row.key))
    (always_returns_same _ _ _ (λ a r g t. (ap is_lt (search rules), search rules)))
