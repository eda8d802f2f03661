-- Changes of documents as data, and which documents are changes, or the first fault (MongoDB manual, "Update Operators",
-- "Update Documents" and "Replace a Document"). A document with no outermost name that begins with $ is a replacement. Else each
-- of its names is an operator's, with a document of paths and operands. Of two faults the left is returned, and of a field its
-- name's before its operand's. Edits go in the order of their paths (own, in that parts compare by their bytes).
use Rattle.std.specs.Prelude.{ℕ, ℤ, List, [], ◌∷◌, ◌++◌, Bool, true, false, ◌&&◌, ◌||◌, not, Option, Some, None, Result, Ok, Err, ok_or, codes, is_some, if◌then◌else◌}
use Rattle.std.specs.declared.cmp.Ordering.{Ordering}
use Rattle.std.specs.BTreeMap.{insert_entry}
use Rattle.std.specs.Cmp.Lexicographic.{slice_cmp}
use Rattle.std.specs.List.{list_all, starts_with}
use Rattle.std.specs.Ordering.{nat_cmp}
use Rattle.std.specs.Result.{result_map_both}
use Rattle.std.specs.Str.{bytes_eq}
use Rattle.bson_model.specs.Tree.{Datum, int32_value, int64_value, Fields, no_fields, field}
use Rattle.query_model.specs.Paths.{Path, read_path, begins_with_dollar, as_document}
use Rattle.query_model.specs.Queries.{QueryFault, unknown_operator, bad_operand, path_fault, named}
use Rattle.query_model.specs.Reading.{◌>>=◌}

-- what an operator makes of the value at its path
pub data Edit : Type 0 where
  set_edit : Datum → Edit
  unset_edit : Edit
  -- a number
  inc_edit : Datum → Edit
  min_edit : Datum → Edit
  max_edit : Datum → Edit

pub data Change : Type 0 where
  replacement : Fields → Change
  -- each at its path, in the order of the paths
  edits : List (Path × Edit) → Change

-- the operators of a change
pub data EditOperator : Type 0 where
  set_operator : EditOperator
  unset_operator : EditOperator
  inc_operator : EditOperator
  min_operator : EditOperator
  max_operator : EditOperator

abbrev pub edit_operators : List (List ℕ × EditOperator)
edit_operators =
    (codes "$set", set_operator)
    ∷ (codes "$unset", unset_operator)
    ∷ (codes "$inc", inc_operator)
    ∷ (codes "$min", min_operator)
    ∷ (codes "$max", max_operator)
    ∷ []

-- the number that a value is
abbrev pub number_of : Datum → Option ℤ
number_of (int32_value z) = Some z
number_of (int64_value z) = Some z
number_of d = None

abbrev pub read_edit : EditOperator → Datum → Result Edit QueryFault
read_edit set_operator d = Ok (set_edit d)
read_edit unset_operator d = Ok unset_edit
read_edit inc_operator d = if is_some (number_of d) then Ok (inc_edit d) else Err bad_operand
read_edit min_operator d = Ok (min_edit d)
read_edit max_operator d = Ok (max_edit d)

-- the edits of one operator
abbrev pub read_edits : EditOperator → Fields → Result (List (Path × Edit)) QueryFault
read_edits operator no_fields = Ok []
read_edits operator (field name d ms) = do
  path ← result_map_both (λ path. path) path_fault (read_path name)
  edit ← read_edit operator d
  others ← read_edits operator ms
  Ok ((path, edit) ∷ others)

-- the edits of all operators, in their order in the document
abbrev pub read_operators : Fields → Result (List (Path × Edit)) QueryFault
read_operators no_fields = Ok []
read_operators (field name d ms) = do
  operator ← ok_or (named edit_operators name) unknown_operator
  operand ← ok_or (as_document d) bad_operand
  first ← read_edits operator operand
  others ← read_operators ms
  Ok (first ++ others)

-- part by part, by bytes
abbrev pub path_order : Path → Path → Ordering
path_order = slice_cmp (slice_cmp nat_cmp)

-- edits put among others that are in the order of their paths
abbrev pub put_among : List (Path × Edit) → List (Path × Edit) → List (Path × Edit)
put_among others [] = others
put_among others (e ∷ es) = put_among (insert_entry path_order others e.0 e.1) es

-- neither path is the other, or a prefix of it
abbrev pub is_apart : Path → Path → Bool
is_apart p q = not (starts_with bytes_eq p q || starts_with bytes_eq q p)

abbrev pub are_apart : List (Path × Edit) → Bool
are_apart [] = true
are_apart (e ∷ es) = list_all (λ f. is_apart e.0 f.0) es && are_apart es

-- the change that edits are, where no path is given twice or is a prefix of another
abbrev pub change_of : List (Path × Edit) → Result Change QueryFault
change_of es = if are_apart es then Ok (edits (put_among [] es)) else Err bad_operand

abbrev pub has_operator : Fields → Bool
has_operator no_fields = false
has_operator (field name d ms) = begins_with_dollar name || has_operator ms

-- the change that a document is
abbrev pub read_change : Fields → Result Change QueryFault
read_change document = if has_operator document then (read_operators document >>= change_of) else Ok (replacement document)
