-- The document that an upsert begins with, by the document of its filter (MongoDB manual, "Upsert Behavior"): the same as by the query that the filter is.
use Rattle.std.specs.Prelude.{ℕ, List, Bool, true, false, ◌&&◌, not, Option, Some, ◌==◌, if◌then◌else◌}
use Rattle.std.specs.List.{list_any}
use Rattle.std.specs.Str.{byte}
use Rattle.bson_model.specs.Tree.{Datum, document_value, Fields, no_fields, field}
use Rattle.query_model.specs.Paths.{begins_with_dollar}
use Rattle.query_model.specs.Queries.{Operator, eq_operator, elem_match_operator, not_operator, operators, named}
use Rattle.query_model.specs.Reading.{is_operator_document}

abbrev pub has_dot : List ℕ → Bool
has_dot name = list_any (λ b. b == byte ".") name

-- a name that is not a logical operator's, and has one part
abbrev pub is_plain_name : List ℕ → Bool
is_plain_name name = not (begins_with_dollar name) && not (has_dot name)

-- A filter from which a document may begin: no dotted path and no logical operator, at any level.
abbrev mutual
  pub is_plain_filter : Fields → Bool
  is_plain_filter no_fields = true
  is_plain_filter (field name d ms) = (is_plain_name name && is_plain_asked d) && is_plain_filter ms

  -- the same for the condition of a path
  pub is_plain_asked : Datum → Bool
  is_plain_asked (document_value ms) = if is_operator_document ms then are_plain_operators ms else true
  is_plain_asked d = true

  pub are_plain_operators : Fields → Bool
  are_plain_operators no_fields = true
  are_plain_operators (field name d ms) = is_plain_operand (named operators name) d && are_plain_operators ms

  pub is_plain_operand : Option Operator → Datum → Bool
  is_plain_operand (Some elem_match_operator) (document_value ms) = if is_operator_document ms then are_plain_operators ms else is_plain_filter ms
  is_plain_operand (Some not_operator) (document_value ms) = are_plain_operators ms
  is_plain_operand operator d = true

abbrev pub is_equality : Option Operator → Bool
is_equality (Some eq_operator) = true
is_equality operator = false

-- a field of that name for each `$eq`, before others
abbrev pub operands_before : List ℕ → Fields → Fields → Fields
operands_before name no_fields rest = rest
operands_before name (field operator d ms) rest =
    if is_equality (named operators operator) then field name d (operands_before name ms rest) else operands_before name ms rest

-- the equalities of one field, before others
abbrev pub equalities_before : List ℕ → Datum → Fields → Fields
equalities_before name (document_value ms) rest = if is_operator_document ms then operands_before name ms rest else field name (document_value ms) rest
equalities_before name d rest = field name d rest

-- the equalities at the top of a filter, in its order
abbrev pub equalities_in : Fields → Fields
equalities_in no_fields = no_fields
equalities_in (field name d ms) = equalities_before name d (equalities_in ms)
