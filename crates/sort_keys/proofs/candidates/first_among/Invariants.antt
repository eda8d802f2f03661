-- The first of the best part found and of what is left is that of the whole.
use Rattle.std.proofs.Common.{◌≡◌, drop}
use Rattle.std.specs.Prelude.{flat_map, None}
use Rattle.field_paths.specs.References.{seen}
use Rattle.pipeline_model.specs.SortKeys.{directed, order_parts, parts_of_value}
use Rattle.sort_keys.specs.FirstPart.{best_of}
use Rattle.sort_keys.specs.View.{best_seen, direction_of}
use Rattle.sort_keys.proofs.candidates.first_among.Given as goal

abbrev pub invariant-loop-value : goal.invariant-loop-value
invariant-loop-value l =
    best_of (directed (direction_of l.direction) order_parts) (best_seen l.best) (flat_map parts_of_value (seen (drop l.value-index l.values)))
    ≡ best_of (directed (direction_of l.direction) order_parts) None (flat_map parts_of_value (seen l.values))
