use Rattle.std.proofs.Common.{◌≤◌, arith}
use Rattle.pipeline_eval.proofs.FirstRows.{documents_first}
use Rattle.pipeline_eval.proofs.tops.first_sorted.Goals as goal

pub returns : goal.returns
returns c =
    let some : 1 ≤ c.args.count = omega (arith, c.requires) in
    let kept = c.in_ok-rows.ensures in
    documents_first c.args.spec.now c.args.count some c.in_ok-rows.field-0.is_cut kept.0 c.in_ok-rows.field-0.rows.items c.sort_rows.new.rows.items
    c.truncate.new.self.items _ _ kept.1 kept.2 kept.3 c.sort_rows.ensures.permutes c.in_ok-sort_rows.ensures.sorted
    c.truncate.ensures.items c.in_ok-first.ensures
