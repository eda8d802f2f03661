-- The path and direction that one field of a sort reads as.
use Rattle.std.specs.Prelude.{ℕ, List, Result, Ok}
use Rattle.bson_model.specs.Tree.{Datum}
use Rattle.query_model.specs.Queries.{QueryFault}
use Rattle.query_model.specs.Reading.{◌>>=◌}
use Rattle.pipeline_model.specs.Operands.{read_name}
use Rattle.pipeline_model.specs.SortKeys.{SortField, read_direction}

abbrev pub read_sort_field : List ℕ → Datum → Result SortField QueryFault
read_sort_field name d = do
  path ← read_name name
  direction ← read_direction d
  Ok (record { path = path; direction = direction })
