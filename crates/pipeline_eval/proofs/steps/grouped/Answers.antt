use Rattle.std.proofs.Common.{◌++◌, ◌∷◌, [], List, ◌∙◌, subst}
use Rattle.std.specs.Arc.{arc_value}
use Rattle.bson_values.specs.Tree.{Fields}
use Rattle.group_accum.specs.GroupParts.{rows_in, spec_in}
use Rattle.pipeline_model.specs.GroupSpecs.{GroupSpec}
use Rattle.pipeline_model.specs.Groups.{IsJoined, PartialRow, own_row}
use Rattle.pipeline_eval.proofs.Loops.{grouped_next, nothing_grouped}
use Rattle.pipeline_eval.proofs.steps.grouped.Goals as goal

pub loop-document-init : goal.loop-document-init
loop-document-init c = record { spec = c.new-groups.ensures.spec; rows = nothing_grouped (arc_value c.args.spec) _ c.new-groups.ensures.rows }

pub loop-document-preserved : goal.loop-document-preserved
loop-document-preserved c = record {
  spec = c.add.ensures.spec ∙ c.loop-document.invariant.spec;
  rows =
      grouped_next arc_value (arc_value c.args.spec) c.args.documents.now c.loop-document.document-index c.document-item.result
      (rows_in c.loop-document.groups) (rows_in c.add.new.self) c.loop-document-test.true c.document-item.is
      (subst (λ (s : GroupSpec). (rows : List PartialRow) → IsJoined s rows (rows_in c.loop-document.groups)
      → IsJoined s (rows ++ own_row s (arc_value c.document-item.result) ∷ []) (rows_in c.add.new.self))
      c.loop-document.invariant.spec
      (subst (λ (d : Fields). (rows : List PartialRow) → IsJoined (spec_in c.loop-document.groups) rows (rows_in c.loop-document.groups)
      → IsJoined (spec_in c.loop-document.groups) (rows ++ own_row (spec_in c.loop-document.groups) d ∷ []) (rows_in c.add.new.self))
      c.deref.ensures c.in_ok-add.ensures.rows))
      c.loop-document.invariant.rows;
}
