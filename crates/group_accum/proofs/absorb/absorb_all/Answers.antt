use Rattle.std.proofs.Common.{map}
use Rattle.group_accum.specs.View.{cell_of}
use Rattle.group_accum.proofs.Steps.{absorbed_next}
use Rattle.group_accum.proofs.absorb.absorb_all.Goals as goal

pub loop-field-preserved : goal.loop-field-preserved
loop-field-preserved c =
    absorbed_next c.loop-field.absorbed.items _ c.in_ok-cell.cell (cell_of c.in-Some.before) (map cell_of c.pop_front.new.self.items)
    (map cell_of c.loop-field.more.items) (map cell_of c.absorb_next.new.cells.items) c.args.fields.now c.loop-field.field-index c.field-item.result _
    c.loop-field-test.true c.field-item.is c.in_ok-push.ensures.items (c.in_ok-cell.ensures _ _) (rw c.in-Some.ensures.items at c.loop-field.invariant)
