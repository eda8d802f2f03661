-- The cells that are done, and those of the fields that are left, are those of all fields.
use Rattle.std.proofs.Common.{◌≡◌, ◌++◌, drop, map}
use Rattle.pipeline_model.proofs.Absorbed.{absorb_row}
use Rattle.group_accum.specs.View.{cell_of, group_field_of}
use Rattle.group_accum.proofs.absorb.absorb_all.Given as goal

abbrev pub invariant-loop-field : goal.invariant-loop-field
invariant-loop-field l =
    map cell_of l.absorbed.items
    ++ absorb_row (map group_field_of (drop l.field-index l.fields)) (map cell_of l.own.items) (map cell_of l.more.items)
    ≡ absorb_row (map group_field_of l.fields) (map cell_of l.initial.own.items) (map cell_of l.initial.more.items)
