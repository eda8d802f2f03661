use Rattle.std.proofs.Common.{◌∙◌, rules}
use Rattle.std.proofs.lemmas.Fn.{always_returns_same}
use Rattle.bson_values.specs.View.{datum_of}
use Rattle.query_model.specs.Paths.{elements}
use Rattle.value_compare.specs.Order.{order}
use Rattle.match_expr.proofs.Searches.{found_by_halving}
use Rattle.match_expr.proofs.operand_list.OperandList.contains.Goals as goal

-- the closure compares with the value, and the slice is the sorted operands
pub returns : goal.returns
returns c =
    let facts = c.binary_search_by.ensures in
    let x = datum_of c.args.value.now in
    let found = facts.position (λ v. order (datum_of v) x) (always_returns_same _ _ _ (λ a r f' called. (search rules, search rules))) in
    rw (← c.self.view_is) (
    c.is_ok.ensures.value
    ∙ found_by_halving x (elements c.self.inside.listed) c.deref.result.now c.binary_search_by.result (rw c.deref.ensures.value c.self.invariant.0)
    (rw c.deref.ensures.value c.self.invariant.1) facts.bound found
    )
