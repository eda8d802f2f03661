-- The copies, and what is left of the array, are the whole.
use Rattle.std.proofs.Common.{◌≡◌, ◌++◌, drop}
use Rattle.std.specs.Prelude.{map}
use Rattle.bson_values.specs.View.{datum_of, items_of}
use Rattle.query_model.specs.Paths.{elements}
use Rattle.match_expr.proofs.operand_list.copies.Given as goal

abbrev pub invariant-loop-value : goal.invariant-loop-value
invariant-loop-value l =
    map (λ v. datum_of v) l.copies.items ++ elements (items_of (drop l.value-index l.value-items)) ≡ elements l.array
