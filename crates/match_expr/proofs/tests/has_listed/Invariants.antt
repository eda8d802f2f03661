-- What is left of the array has one that is listed where the whole has.
use Rattle.std.proofs.Common.{◌≡◌, drop}
use Rattle.std.specs.List.{list_any}
use Rattle.bson_values.specs.View.{items_of}
use Rattle.query_model.specs.Paths.{elements}
use Rattle.match_expr.specs.Looks.{is_listed}
use Rattle.match_expr.proofs.tests.has_listed.Given as goal

abbrev pub invariant-loop-value : goal.invariant-loop-value
invariant-loop-value l =
    list_any (is_listed l.operands) (elements (items_of (drop l.value-index l.value-items)))
    ≡ list_any (is_listed l.operands) (elements l.array)
