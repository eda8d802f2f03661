use Rattle.std.proofs.Common.{List, ap, ◌∙◌}
use Rattle.pipeline_model.specs.Groups.{PartialRow}
use Rattle.group_accum.specs.Rows.{Partials}
use Rattle.group_accum.proofs.RowCopies.{copied_rows}
use Rattle.group_accum.proofs.partials.PartialList.copy.Goals as goal

-- the copied rows in place of the rows
pub returns : goal.returns
returns c =
    let same = copied_rows _ _ (λ key copy h. h) (λ cell copy h. h) c.self.inside.rows.entries c.in_ok-rows.rows.entries c.in_ok-rows.ensures.cases in
    ap (λ (rows : List PartialRow). record { rows = rows; documents = c.self.inside.documents }) same ∙ c.self.view_is
