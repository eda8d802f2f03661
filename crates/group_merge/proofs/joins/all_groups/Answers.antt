use Rattle.std.proofs.Common.{List, ◌++◌, ◌∙◌, subst}
use Rattle.std.specs.Arc.{arc_value}
use Rattle.group_accum.specs.GroupParts.{rows_in}
use Rattle.pipeline_eval.specs.Rows.{rows_of}
use Rattle.pipeline_model.specs.GroupSpecs.{GroupSpec}
use Rattle.pipeline_model.specs.Groups.{IsJoined, PartialRow}
use Rattle.pipeline_model.specs.Halves.{partials_in_part}
use Rattle.group_merge.proofs.Parts.{next_joined, nothing_joined}
use Rattle.group_merge.proofs.joins.all_groups.Goals as goal

pub parts-init : goal.parts-init
parts-init c = record { spec = c.new-groups.ensures.spec; rows = nothing_joined rows_of partials_in_part (arc_value c.args.spec) _ c.from-rest.result.items c.new-groups.ensures.rows }

pub parts-preserved : goal.parts-preserved
parts-preserved c = record {
  spec = c.join_rows.ensures.spec ∙ c.parts.invariant.spec;
  rows =
      next_joined rows_of partials_in_part (arc_value c.args.spec) _ _ c.parts.rest.items c.pop_front.new.self.items c.in-Some.part _ c.in-Some.ensures.items
      (subst (λ (s : GroupSpec). (front : List PartialRow) → IsJoined s front (rows_in c.parts.groups) →
      IsJoined s (front ++ partials_in_part (rows_of c.in-Some.part)) (rows_in c.join_rows.new.groups))
      c.parts.invariant.spec c.in_ok-join_rows.ensures.rows) c.parts.invariant.rows;
}
