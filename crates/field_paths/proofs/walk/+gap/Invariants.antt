-- The parts that are left get fewer. What is left of the array has a gap where the whole does.
use Rattle.std.proofs.Common.{◌≡◌, ◌∷◌, ◌+◌, ◌*◌, length, drop}
use Rattle.bson_values.specs.View.{items_of}
use Rattle.query_model.specs.Paths.{gap_from}
use Rattle.bson_model.specs.Tree.{array_value}
use Rattle.field_paths.proofs.walk.+gap.Given as goal

abbrev pub decreases-gap_from : goal.decreases-gap_from
decreases-gap_from l = 3 * length l.parts.now

abbrev pub decreases-gap_in_document : goal.decreases-gap_in_document
decreases-gap_in_document l = 3 * length l.others.now + 1

abbrev pub decreases-gap_in_array : goal.decreases-gap_in_array
decreases-gap_in_array l = 3 * length l.others.now + 2

abbrev pub invariant-gap_in_array-loop-value : goal.invariant-gap_in_array-loop-value
invariant-gap_in_array-loop-value l =
    gap_from (l.part ∷ l.others) (array_value (items_of (drop l.value-index l.value-items))) ≡ gap_from (l.part ∷ l.others) (array_value l.array)
