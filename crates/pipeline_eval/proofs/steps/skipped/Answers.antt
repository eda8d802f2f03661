use Rattle.std.proofs.Common.{◌-◌, arith, sym, ◌∙◌}
use Rattle.pipeline_eval.proofs.Loops.{all_skipped, none_skipped, one_skipped}
use Rattle.pipeline_eval.proofs.steps.skipped.Goals as goal

pub loop-preserved : goal.loop-preserved
loop-preserved c =
    one_skipped c.args.count c.loop.counter c.in-Some._document c.loop.left.items c.pop_front.new.self.items _ c.loop-test.true c.in-Some.ensures.items
    c.loop.invariant

pub returns-in-None : goal.returns-in-None
returns-in-None c =
    none_skipped (c.args.count - c.loop.counter) c.loop.left.items c.from.result.items _ (c.from.ensures.0 ∙ sym c.in-None.ensures.items)
    (omega (arith, c.in-None.ensures.cases.0, c.loop.left.ok)) c.loop.invariant

pub returns : goal.returns
returns c = all_skipped c.args.count c.loop.counter c.loop.left.items c.from-2.result.items _ c.loop-test.false c.from-2.ensures.0 c.loop.invariant
