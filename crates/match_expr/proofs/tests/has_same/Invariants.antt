-- What is left of the array has such a value where the whole has.
use Rattle.std.proofs.Common.{◌≡◌, drop}
use Rattle.std.specs.List.{list_any}
use Rattle.bson_values.specs.View.{datum_of, items_of}
use Rattle.query_model.specs.Paths.{elements}
use Rattle.value_compare.specs.Order.{same_value}
use Rattle.match_expr.proofs.tests.has_same.Given as goal

abbrev pub invariant-loop-value : goal.invariant-loop-value
invariant-loop-value l =
    list_any (same_value (datum_of l.operand)) (elements (items_of (drop l.value-index l.value-items)))
    ≡ list_any (same_value (datum_of l.operand)) (elements l.array)
