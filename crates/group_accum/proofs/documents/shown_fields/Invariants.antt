-- The fields that are done, and those of the cells that are left, are those of all cells.
use Rattle.std.proofs.Common.{◌≡◌, drop, map}
use Rattle.std.specs.Prelude.{option_map}
use Rattle.bson_model.specs.Tree.{joined}
use Rattle.pipeline_model.specs.Groups.{shown_fields}
use Rattle.group_accum.specs.View.{cell_of, group_field_of}
use Rattle.group_accum.proofs.documents.shown_fields.Given as goal

abbrev pub invariant-loop-field : goal.invariant-loop-field
invariant-loop-field l =
    option_map (joined l.shown) (shown_fields (map group_field_of (drop l.field-index l.fields)) (map cell_of l.rest.items))
    ≡ option_map (joined l.initial.shown) (shown_fields (map group_field_of l.fields) (map cell_of l.initial.rest.items))
