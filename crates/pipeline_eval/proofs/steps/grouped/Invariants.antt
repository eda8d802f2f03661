-- The rows are those of the documents that were added.
use Rattle.std.proofs.Common.{◌≡◌, map, take}
use Rattle.std.specs.Arc.{arc_value}
use Rattle.group_accum.specs.GroupParts.{rows_in, spec_in}
use Rattle.pipeline_model.specs.Groups.{IsJoined, own_row}
use Rattle.pipeline_eval.proofs.steps.grouped.Given as goal

abbrev pub invariant-loop-document : goal.invariant-loop-document
invariant-loop-document l = record {
  spec : spec_in l.groups ≡ arc_value l.fn.spec;
  rows : IsJoined (arc_value l.fn.spec) (map (own_row (arc_value l.fn.spec)) (map arc_value (take l.document-index l.documents))) (rows_in l.groups);
}
