use Rattle.pipeline_model.proofs.Absorbed.{empty_cell}
use Rattle.pipeline_model.specs.GroupSpecs as model
use Rattle.group_accum.specs.View.{cell_of, group_field_of}
use Rattle.group_accum.proofs.Steps.{mapped_next}
use Rattle.group_accum.proofs.absorb.empty_row.Goals as goal

pub loop-field-preserved : goal.loop-field-preserved
loop-field-preserved c =
    mapped_next cell_of group_field_of (λ (f : model.GroupField). empty_cell f.accumulator) c.loop-field.cells.items _ c.empty_cell.result
    c.args.fields.now c.loop-field.field-index c.field-item.result _ c.loop-field-test.true c.field-item.is c.in_ok-push.ensures.items c.empty_cell.ensures
    c.loop-field.invariant
