-- The rule that one field of a projection reads as.
use Rattle.std.specs.Prelude.{ℕ, List, Result, Ok}
use Rattle.bson_model.specs.Tree.{Datum}
use Rattle.query_model.specs.Queries.{QueryFault}
use Rattle.query_model.specs.Reading.{◌>>=◌}
use Rattle.pipeline_model.specs.Operands.{read_name}
use Rattle.pipeline_model.specs.Projections.{NameRule, one_part, read_treatment}

abbrev pub read_rule : List ℕ → Datum → Result NameRule QueryFault
read_rule name d = do
  path ← read_name name
  part ← one_part path
  treatment ← read_treatment d
  Ok (record { name = part; treatment = treatment })
