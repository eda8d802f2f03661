use Rattle.std.proofs.Common.{ap, rules}
use Rattle.std.specs.Ordering.{is_lt}
use Rattle.std.proofs.lemmas.List.Sorted.{answers_always}
use Rattle.bson_values.specs.View.{datum_of}
use Rattle.value_compare.specs.Order.{order}
use Rattle.match_expr.proofs.Searches.{by_the_order, sorted_copies}
use Rattle.match_expr.proofs.operand_list.OperandList.of.Goals as goal

-- the closure compares by the order of values
pub invariant_of-result : goal.invariant_of-result
invariant_of-result c =
    let up = c.sort_unstable_by.ensures.sorted (λ v w. is_lt (order (datum_of v) (datum_of w))) by_the_order (answers_always _ _ _ (λ f a r g called. ap is_lt (search rules))) in
    (up, sorted_copies _ _ _ _ c.in_ok-listed.ensures c.in_ok-sorted.ensures c.sort_unstable_by.ensures.permutation)
