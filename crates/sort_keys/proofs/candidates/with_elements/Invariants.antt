-- The first of the best part found and of what is left is that of the whole.
use Rattle.std.proofs.Common.{◌≡◌, drop}
use Rattle.std.specs.Prelude.{map}
use Rattle.bson_values.specs.View.{items_of}
use Rattle.query_model.specs.Paths.{elements}
use Rattle.pipeline_model.specs.SortKeys.{directed, order_parts, value_part}
use Rattle.sort_keys.specs.FirstPart.{best_of}
use Rattle.sort_keys.specs.View.{best_seen, direction_of}
use Rattle.sort_keys.proofs.candidates.with_elements.Given as goal

abbrev pub invariant-loop-value : goal.invariant-loop-value
invariant-loop-value l =
    best_of (directed (direction_of l.direction) order_parts) (best_seen l.best) (map value_part (elements (items_of (drop l.value-index l.value-items))))
    ≡ best_of (directed (direction_of l.direction) order_parts) (best_seen l.start) (map value_part (elements l.array))
