use Rattle.std.proofs.Common.{◌<◌, ◌∙◌, length, false, sym, arith}
use Rattle.sim_driver.proofs.Marks.{one_more_delivered, same_get}
use Rattle.sim_driver.proofs.delivered.first_of.Goals as goal

pub places-preserved : goal.places-preserved
places-preserved c =
    let within : c.places.place < length c.args.flags.now.items = omega (arith, c.places-test.true, c.len.ensures, c.args.flags.now.ok.0) in
    one_more_delivered c.places.place c.args.flags.now.items c.places.invariant within
    (same_get c.args.flags.now.items c.places.place false c.index.result.now within ∙ (sym c.index.ensures ∙ c.if-index.true))
