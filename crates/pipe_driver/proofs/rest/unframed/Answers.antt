use Rattle.std.proofs.Common.{arith}
use Rattle.pipe_driver.proofs.RestLengths.{message_fits, none_left, passed, rest_shorter}
use Rattle.pipe_driver.proofs.rest.unframed.Goals as goal

pub loop-whole-init : goal.loop-whole-init
loop-whole-init c = (λ count rest. rest, λ i. omega (arith, c.type_inv.bytes i))

pub loop-whole-preserved : goal.loop-whole-preserved
loop-whole-preserved c = passed c.args.bytes.now c.loop-whole.rest.now c.in-Message.whole c.loop-whole.invariant.0 c.loop-whole.invariant.1 c.in-Message.ensures

pub returns : goal.returns
returns c = c.loop-whole.invariant.0 _ (none_left c.outline_of.result c.loop-whole.rest.now c.outline_of.ensures c.in_default.not-Message)

pub slice_bounds-rest-count : goal.slice_bounds-rest-count
slice_bounds-rest-count c = message_fits _ _ c.in-Message.ensures

pub slice_bounds-rest-start : goal.slice_bounds-rest-start
slice_bounds-rest-start c = message_fits _ _ c.in-Message.ensures

pub loop-whole-smaller : goal.loop-whole-smaller
loop-whole-smaller c = rest_shorter c.in-Message.whole c.loop-whole.rest.now c.in-Message.ensures
