-- The steps of changes: for a document on a path, for one that meets a filter, and for one that an upsert begins with.
use Rattle.std.specs.Prelude.{Option, Result, Ok}
use Rattle.bson_model.specs.Tree.{Datum, Fields}
use Rattle.query_model.specs.Paths.{Path}
use Rattle.query_model.specs.Changes.{Change}
use Rattle.query_model.specs.Edits.{WriteFault, ◌>>=◌, on_the_way, put_at, changed}
use Rattle.query_model.specs.Effects.{Effect, updated, upserted_with}

-- the value set below what is on the path
abbrev pub put_inside : Path → Datum → Option Datum → Result Fields WriteFault
put_inside path value found = on_the_way found >>= put_at path value

abbrev pub change_of_met : Change → Fields → Result Effect WriteFault
change_of_met change before = changed change before >>= λ after. Ok (updated before after)

abbrev pub change_of_start : Change → Fields → Result Effect WriteFault
change_of_start change start = changed change start >>= λ after. Ok (upserted_with after)
