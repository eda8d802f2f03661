-- The parts that are left get fewer. The values found, and those of what is left of the array, are those of the whole.
use Rattle.std.proofs.Common.{◌≡◌, ◌∷◌, ◌+◌, ◌*◌, length, drop}
use Rattle.bson_model.specs.Tree.{joined_items}
use Rattle.bson_values.specs.View.{items_of}
use Rattle.projection.specs.View.{values_in}
use Rattle.projection.proofs.values.+value.Given as goal

abbrev pub decreases-value_from : goal.decreases-value_from
decreases-value_from l = 4 * length l.parts.now

abbrev pub decreases-value_in_document : goal.decreases-value_in_document
decreases-value_in_document l = 4 * length l.others.now + 1

abbrev pub decreases-push_element : goal.decreases-push_element
decreases-push_element l = 4 * length l.others.now + 2

abbrev pub decreases-values_in_array : goal.decreases-values_in_array
decreases-values_in_array l = 4 * length l.others.now + 3

abbrev pub invariant-values_in_array-loop-value : goal.invariant-values_in_array-loop-value
invariant-values_in_array-loop-value l =
    joined_items l.found (values_in (l.part ∷ l.others) (items_of (drop l.value-index l.value-items))) ≡ values_in (l.part ∷ l.others) l.array
