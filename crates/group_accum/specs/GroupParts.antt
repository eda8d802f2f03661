-- What contracts see of groups: the specification, the rows, and the number of documents that the rows summarize.
use Rattle.std.specs.Prelude.{ℕ, List}
use Rattle.std.specs.Arc.{arc_value}
use Rattle.pipeline_model.specs.GroupSpecs.{GroupSpec}
use Rattle.pipeline_model.specs.Groups.{PartialRow}
use Rattle.group_accum.specs.Rows.{rows_of}
use Rattle.group_accum.specs.declared.groups.Groups.{Groups}

unfoldable pub spec_in : Groups → GroupSpec
spec_in g = arc_value g.spec

unfoldable pub rows_in : Groups → List PartialRow
rows_in g = rows_of g.rows.entries

unfoldable pub documents_in : Groups → ℕ
documents_in g = g.documents
