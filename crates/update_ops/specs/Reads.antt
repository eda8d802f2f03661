-- Reading a change step by step: one field of an operator's document, one operator, and the edits already read.
use Rattle.std.specs.Prelude.{ℕ, List, ◌++◌, Result, Ok, ok_or}
use Rattle.std.specs.Result.{result_map_both}
use Rattle.bson_model.specs.Tree.{Datum}
use Rattle.query_model.specs.Paths.{Path, as_document, read_path}
use Rattle.query_model.specs.Queries.{QueryFault, unknown_operator, bad_operand, path_fault, named}
use Rattle.query_model.specs.Reading.{◌>>=◌}
use Rattle.query_model.specs.Changes.{Edit, EditOperator, edit_operators, read_edit, read_edits}

abbrev pub read_path_edit : EditOperator → List ℕ → Datum → Result (Path × Edit) QueryFault
read_path_edit operator name d = do
  path ← result_map_both (λ path. path) path_fault (read_path name)
  edit ← read_edit operator d
  Ok (path, edit)

abbrev pub read_operator : List ℕ → Datum → Result (List (Path × Edit)) QueryFault
read_operator name d = do
  operator ← ok_or (named edit_operators name) unknown_operator
  operand ← ok_or (as_document d) bad_operand
  read_edits operator operand

-- these edits, and then those that are read
abbrev pub behind : List (Path × Edit) → Result (List (Path × Edit)) QueryFault → Result (List (Path × Edit)) QueryFault
behind prefix read = read >>= λ others. Ok (prefix ++ others)
