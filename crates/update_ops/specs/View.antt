-- Changes and operators of the program as plain data.
use Rattle.std.specs.Prelude.{List, map}
use Rattle.bson_values.specs.View.{datum_of}
use Rattle.bson_model.specs.Tree.{Datum, int32_value, int64_value}
use Rattle.query_model.specs.Paths as paths
use Rattle.query_model.specs.Changes as changes
use Rattle.query_model.specs.Changes.{Change, replacement, edits, set_edit, unset_edit, inc_edit, min_edit, max_edit, EditOperator, set_operator, unset_operator, inc_operator, min_operator, max_operator}
use Rattle.update_ops.specs.declared.change.Number.{Number}
use Rattle.update_ops.specs.declared.change.Number.TheVariants.{Int32, Int64}
use Rattle.update_ops.specs.declared.change.Edit.{Edit}
use Rattle.update_ops.specs.declared.change.Edit.TheVariants.{Set, Unset, Inc, Min, Max}
use Rattle.update_ops.specs.declared.change.PathEdit.{PathEdit}
use Rattle.update_ops.specs.declared.change.Update.{Update}
use Rattle.update_ops.specs.declared.change.Update.TheVariants.{Replacement, Edits}
use Rattle.update_ops.specs.declared.operators.Operator.{Operator}
use Rattle.update_ops.specs.declared.operators.Operator.TheVariants as operator

abbrev pub number_datum : Number → Datum
number_datum (Int32 z) = int32_value z
number_datum (Int64 z) = int64_value z

abbrev pub edit_of : Edit → changes.Edit
edit_of (Set v) = set_edit (datum_of v)
edit_of Unset = unset_edit
edit_of (Inc n) = inc_edit (number_datum n)
edit_of (Min v) = min_edit (datum_of v)
edit_of (Max v) = max_edit (datum_of v)

abbrev pub path_edit_of : PathEdit → paths.Path × changes.Edit
path_edit_of e = (e.path.items, edit_of e.edit)

abbrev pub edits_of : List PathEdit → List (paths.Path × changes.Edit)
edits_of es = map path_edit_of es

abbrev pub change_of : Update → Change
change_of (Replacement document) = replacement document
change_of (Edits es) = edits (edits_of es.items)

abbrev pub operator_of : Operator → EditOperator
operator_of operator.Set = set_operator
operator_of operator.Unset = unset_operator
operator_of operator.Inc = inc_operator
operator_of operator.Min = min_operator
operator_of operator.Max = max_operator

-- edits by their paths
abbrev pub entries_of : List (paths.Path × Edit) → List (paths.Path × changes.Edit)
entries_of es = map (λ e. (e.0, edit_of e.1)) es
