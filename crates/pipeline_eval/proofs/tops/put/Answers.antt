use Rattle.std.proofs.Common.{◌≤◌, ◌++◌, ◌∷◌, [], arith}
use Rattle.pipeline_eval.proofs.FirstRows.{late_put, more_put}
use Rattle.pipeline_eval.proofs.tops.put.Goals as goal

pub returns-then-comes_late-clause-top : goal.returns-then-comes_late-clause-top
returns-then-comes_late-clause-top c = λ seen top.
    let some : 1 ≤ c.args.count = omega (arith, c.requires.some) in
    late_put c.args.spec.now c.args.count some c.args.top.now.is_cut seen c.args.top.now.rows.items c.args.row (c.comes_late.ensures.cut c.if-comes_late.true)
    c.requires.cut (c.comes_late.ensures.late c.if-comes_late.true) top

pub returns-then-len-count-clause-top : goal.returns-then-len-count-clause-top
returns-then-len-count-clause-top c = λ seen top.
    let some : 1 ≤ c.args.count = omega (arith, c.requires.some) in
    more_put c.args.spec.now c.args.count some c.args.top.now.is_cut seen c.args.top.now.rows.items _ c.args.row c.in_ok-push.ensures.items c.requires.cut top

pub returns-clause-top : goal.returns-clause-top
returns-clause-top c = λ seen top.
    let some : 1 ≤ c.args.count = omega (arith, c.requires.some) in
    c.in_ok-cut_rows.ensures.top (seen ++ c.args.row ∷ [])
    (more_put c.args.spec.now c.args.count some c.args.top.now.is_cut seen c.args.top.now.rows.items _ c.args.row c.in_ok-push.ensures.items
    c.requires.cut top)
