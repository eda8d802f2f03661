-- The parts that are left get fewer. What is left of the array meets the visitor where the whole does.
use Rattle.std.proofs.Common.{◌≡◌, ◌∷◌, ◌+◌, ◌*◌, length, drop}
use Rattle.std.specs.List.{list_any}
use Rattle.bson_values.specs.View.{items_of}
use Rattle.query_model.specs.Paths.{values_from}
use Rattle.bson_model.specs.Tree.{array_value}
use Rattle.field_paths.proofs.walk.+any.Given as goal

abbrev pub decreases-any_from : goal.decreases-any_from
decreases-any_from g l = 3 * length l.parts.now

abbrev pub decreases-any_in_document : goal.decreases-any_in_document
decreases-any_in_document g l = 3 * length l.others.now + 1

abbrev pub decreases-any_in_array : goal.decreases-any_in_array
decreases-any_in_array g l = 3 * length l.others.now + 2

abbrev pub invariant-any_in_array-loop-value : goal.invariant-any_in_array-loop-value
invariant-any_in_array-loop-value g l =
    list_any (g.V.Visitor.accepts l.visitor) (values_from (l.part ∷ l.others) (array_value (items_of (drop l.value-index l.value-items))))
    ≡ list_any (g.V.Visitor.accepts l.visitor) (values_from (l.part ∷ l.others) (array_value l.array))
