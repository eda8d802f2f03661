-- The rows of groups, and the number of documents that they summarize.
use Rattle.std.specs.Prelude.{ℕ, List, map}
use Rattle.std.specs.declared.vec.Vec.{Vec}
use Rattle.bson_model.specs.Tree.{Datum}
use Rattle.pipeline_model.specs.Groups.{PartialRow}
use Rattle.group_accum.specs.View.{cell_of}
use Rattle.group_accum.specs.declared.absorb.Cell.{Cell}

-- what a part has of its documents: a row for each key, and the number of documents that the rows summarize
pub record Partials : Type 0 where
  pub rows : List PartialRow
  pub documents : ℕ

-- an entry of the map, as a row
abbrev pub row_of : {Z : Type 0} → Datum × Vec Cell Z → PartialRow
row_of entry = record { key = entry.0; cells = map cell_of entry.1.items }

abbrev pub rows_of : {Z : Type 0} → List (Datum × Vec Cell Z) → List PartialRow
rows_of entries = map row_of entries
