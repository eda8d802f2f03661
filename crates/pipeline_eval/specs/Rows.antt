-- What halves return, as plain data.
use Rattle.std.specs.Prelude.{map}
use Rattle.std.specs.Arc.{arc_value}
use Rattle.pipeline_model.specs.Halves as model
use Rattle.pipeline_model.specs.Halves.{document_rows, partial_rows, counted_rows}
use Rattle.pipeline_eval.specs.declared.rows.Rows.{Rows}
use Rattle.pipeline_eval.specs.declared.rows.Rows.TheVariants.{Docs, Partials, Counted}

abbrev pub rows_of : Rows → model.Rows
rows_of (Docs documents) = document_rows (map arc_value documents.items)
rows_of (Partials list) = partial_rows list.rows
rows_of (Counted count) = counted_rows count
