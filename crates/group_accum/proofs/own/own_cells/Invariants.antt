-- The cells that are done, and those of the fields that are left, are those of all fields.
use Rattle.std.proofs.Common.{◌≡◌, ◌++◌, drop, map}
use Rattle.pipeline_model.specs.Groups.{own_cell}
use Rattle.group_accum.specs.View.{cell_of, group_field_of}
use Rattle.group_accum.proofs.own.own_cells.Given as goal

abbrev pub invariant-loop-field : goal.invariant-loop-field
invariant-loop-field l =
    map cell_of l.cells.items ++ map (λ f. own_cell f.accumulator l.document) (map group_field_of (drop l.field-index l.fields))
    ≡ map (λ f. own_cell f.accumulator l.document) (map group_field_of l.fields)
