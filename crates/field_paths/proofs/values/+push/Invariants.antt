-- The parts that are left get fewer. The values appended, and those of what is left of the array, are those of the whole.
use Rattle.std.proofs.Common.{◌≡◌, ◌∷◌, ◌++◌, ◌+◌, ◌*◌, length, drop}
use Rattle.bson_values.specs.View.{items_of}
use Rattle.field_paths.specs.References.{seen}
use Rattle.query_model.specs.Paths.{values_from}
use Rattle.bson_model.specs.Tree.{array_value}
use Rattle.field_paths.proofs.values.+push.Given as goal

abbrev pub decreases-push_from : goal.decreases-push_from
decreases-push_from l = 4 * length l.parts.now

abbrev pub decreases-push_in_document : goal.decreases-push_in_document
decreases-push_in_document l = 4 * length l.others.now + 1

abbrev pub decreases-push_in_array : goal.decreases-push_in_array
decreases-push_in_array l = 4 * length l.others.now + 3

abbrev pub decreases-push_element : goal.decreases-push_element
decreases-push_element l = 4 * length l.others.now + 2

abbrev pub invariant-push_in_array-loop-value : goal.invariant-push_in_array-loop-value
invariant-push_in_array-loop-value l =
    seen l.values.items ++ values_from (l.part ∷ l.others) (array_value (items_of (drop l.value-index l.value-items)))
    ≡ seen l.initial.values.items ++ values_from (l.part ∷ l.others) (array_value l.array)
