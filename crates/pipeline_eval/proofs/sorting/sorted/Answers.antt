use Rattle.pipeline_eval.proofs.Sorts.{documents_moved, documents_sorted, documents_stable}
use Rattle.pipeline_eval.proofs.sorting.sorted.Goals as goal

pub returns-clause-permutes : goal.returns-clause-permutes
returns-clause-permutes c =
    documents_moved c.args.spec.now c.in_ok-rows.rows.items c.sort_rows.new.rows.items _ _ c.in_ok-rows.ensures.documents c.in_ok-sorted.ensures
    c.sort_rows.ensures.permutes

pub returns-clause-sorted : goal.returns-clause-sorted
returns-clause-sorted c =
    documents_sorted c.args.spec.now c.in_ok-rows.rows.items c.sort_rows.new.rows.items _ c.in_ok-sorted.ensures c.in_ok-rows.ensures.keys
    c.sort_rows.ensures.permutes c.in_ok-sort_rows.ensures.sorted

pub returns-clause-stable : goal.returns-clause-stable
returns-clause-stable c =
    documents_stable c.args.spec.now c.in_ok-rows.rows.items c.sort_rows.new.rows.items _ _ c.in_ok-rows.ensures.documents c.in_ok-sorted.ensures
    c.in_ok-rows.ensures.keys c.sort_rows.ensures.permutes c.sort_rows.ensures.stable
