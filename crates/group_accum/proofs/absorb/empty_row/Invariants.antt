-- The cells that are done, and those of the fields that are left, are those of all fields.
use Rattle.std.proofs.Common.{◌≡◌, ◌++◌, drop, map}
use Rattle.pipeline_model.proofs.Absorbed.{empty_row}
use Rattle.group_accum.specs.View.{cell_of, group_field_of}
use Rattle.group_accum.proofs.absorb.empty_row.Given as goal

abbrev pub invariant-loop-field : goal.invariant-loop-field
invariant-loop-field l =
    map cell_of l.cells.items ++ empty_row (map group_field_of (drop l.field-index l.fields)) ≡ empty_row (map group_field_of l.fields)
