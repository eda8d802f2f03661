-- The operators of the program, as those of the definition.
use Rattle.std.specs.Prelude.{Option, Some, None, if◌then◌else◌}
use Rattle.bson_values.specs.Tree.{Datum, document_value, Fields}
use Rattle.query_model.specs.Reading.{is_operator_document}
use Rattle.query_model.specs.Queries as queries
use Rattle.query_model.specs.Queries.{eq_operator, ne_operator, gt_operator, gte_operator, lt_operator, lte_operator, in_operator, nin_operator, all_operator, size_operator, exists_operator, elem_match_operator, not_operator}
use Rattle.match_expr.specs.declared.operators.Plain.{Plain}
use Rattle.match_expr.specs.declared.operators.Plain.TheVariants.{Eq, Ne, Gt, Gte, Lt, Lte, In, Nin, All, Size, Exists}
use Rattle.match_expr.specs.declared.operators.Nested.{Nested}
use Rattle.match_expr.specs.declared.operators.Nested.TheVariants.{ElemMatch, Not}
use Rattle.match_expr.specs.declared.operators.Operator.{Operator}
use Rattle.match_expr.specs.declared.operators.Operator.TheVariants as operator

-- a document whose first name begins with $
abbrev pub operator_document : Datum → Option Fields
operator_document (document_value ms) = if is_operator_document ms then Some ms else None
operator_document d = None

abbrev pub plain_of : Plain → queries.Operator
plain_of Eq = eq_operator
plain_of Ne = ne_operator
plain_of Gt = gt_operator
plain_of Gte = gte_operator
plain_of Lt = lt_operator
plain_of Lte = lte_operator
plain_of In = in_operator
plain_of Nin = nin_operator
plain_of All = all_operator
plain_of Size = size_operator
plain_of Exists = exists_operator

abbrev pub nested_of : Nested → queries.Operator
nested_of ElemMatch = elem_match_operator
nested_of Not = not_operator

abbrev pub operator_of : Operator → queries.Operator
operator_of (operator.Plain plain) = plain_of plain
operator_of (operator.Nested nested) = nested_of nested
