use Rattle.std.proofs.Common.{sym}
use Rattle.update_ops.proofs.Around.{put_goes_on, taken_goes_on}
use Rattle.update_ops.proofs.fields.around.Goals as goal

pub loop-i-preserved : goal.loop-i-preserved
loop-i-preserved c =
    let apart = sym (rw c.if-is_named.false at c.is_named.ensures) in
    record {
      put = λ d.
          put_goes_on c.args.name.now d c.args.fields.now c.loop-i.i c.index-fields-i.result _ c.loop-i-test.true c.index-fields-i.is apart (c.loop-i.invariant.put d);
      taken =
          taken_goes_on c.args.name.now c.args.fields.now c.loop-i.i c.index-fields-i.result _ c.loop-i-test.true c.index-fields-i.is apart c.loop-i.invariant.taken;
    }
