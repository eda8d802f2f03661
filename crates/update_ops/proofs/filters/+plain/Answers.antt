use Rattle.update_ops.proofs.FilterNames.{by_element, by_negation, by_other}
use Rattle.update_ops.proofs.filters.+plain.Goals as goal

pub is_plain_inside-returns-then-is_element_match : goal.is_plain_inside-returns-then-is_element_match
is_plain_inside-returns-then-is_element_match t c =
    by_element c.args.name.now c.args.document.now _ (rw c.if-is_element_match.true at c.is_element_match.ensures) c.is_plain_element.ensures

pub is_plain_inside-returns-then-is_negation : goal.is_plain_inside-returns-then-is_negation
is_plain_inside-returns-then-is_negation t c =
    by_negation c.args.name.now c.args.document.now _ (rw c.if-is_element_match.false at c.is_element_match.ensures)
    (rw c.if-is_negation.true at c.is_negation.ensures) c.are_plain_operators.ensures

pub is_plain_inside-returns-else-is_negation : goal.is_plain_inside-returns-else-is_negation
is_plain_inside-returns-else-is_negation t c =
    by_other c.args.name.now c.args.document.now (rw c.if-is_element_match.false at c.is_element_match.ensures)
    (rw c.if-is_negation.false at c.is_negation.ensures)
