use Rattle.pipeline_model.specs.GroupSpecs as model
use Rattle.pipeline_model.specs.Groups.{own_cell}
use Rattle.group_accum.specs.View.{cell_of, group_field_of}
use Rattle.group_accum.proofs.Steps.{mapped_next}
use Rattle.group_accum.proofs.own.own_cells.Goals as goal

pub loop-field-preserved : goal.loop-field-preserved
loop-field-preserved c =
    mapped_next cell_of group_field_of (λ (f : model.GroupField). own_cell f.accumulator c.args.document.now) c.loop-field.cells.items _ c.in_ok-cell.cell
    c.args.fields.now c.loop-field.field-index c.field-item.result _ c.loop-field-test.true c.field-item.is c.in_ok-push.ensures.items c.in_ok-cell.ensures
    c.loop-field.invariant
