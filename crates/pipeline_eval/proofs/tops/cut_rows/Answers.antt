use Rattle.std.proofs.Common.{◌≤◌, List, ap, arith, length}
use Rattle.std.proofs.lemmas.List.{length-take}
use Rattle.std.proofs.lemmas.List.Sorted.{length_permutation}
use Rattle.pipeline_eval.specs.declared.sorting.Keyed.{Keyed}
use Rattle.pipeline_eval.proofs.FirstRows.{rows_cut}
use Rattle.pipeline_eval.proofs.tops.cut_rows.Goals as goal

pub returns-clause-top : goal.returns-clause-top
returns-clause-top c = λ seen top.
    let some : 1 ≤ c.args.count = omega (arith, c.requires.some) in
    rows_cut c.args.spec.now c.args.count some c.args.top.now.is_cut seen c.args.top.now.rows.items c.sort_rows.new.rows.items _
    c.sort_rows.ensures.permutes c.in_ok-sort_rows.ensures.sorted c.truncate.ensures.items top

pub returns-clause-cut : goal.returns-clause-cut
returns-clause-cut c =
    omega (
      arith,
      ap (λ (l : List Keyed). length l) c.truncate.ensures.items,
      length-take c.args.count c.sort_rows.new.rows.items,
      length_permutation c.args.top.now.rows.items c.sort_rows.new.rows.items c.sort_rows.ensures.permutes,
      c.requires.many,
    )
