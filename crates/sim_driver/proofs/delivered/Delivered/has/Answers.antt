use Rattle.std.proofs.Common.{◌∙◌, false, sym, arith}
use Rattle.sim_driver.proofs.Marks.{delivered_get, delivered_past, same_get}
use Rattle.sim_driver.proofs.delivered.Delivered.has.Goals as goal

pub returns-then-place-len : goal.returns-then-place-len
returns-then-place-len c =
    rw (← c.self.view_is) (sym (delivered_past c.self.inside.flags.items c.args.place
    (omega (arith, c.if-place-len.true, c.len.ensures, c.self.inside.flags.ok.0))))

pub returns : goal.returns
returns c =
    let flags = c.self.inside.flags.items in
    rw (← c.self.view_is) (c.index.ensures ∙ (same_get flags c.args.place c.index.result.now false
    (omega (arith, c.if-place-len.false, c.len.ensures, c.self.inside.flags.ok.0)) ∙ sym (delivered_get flags c.args.place)))
