-- The projections that are done, and those of the documents that are left, are those of all.
use Rattle.std.proofs.Common.{◌≡◌, ◌++◌, drop, map}
use Rattle.std.specs.Arc.{arc_value}
use Rattle.pipeline_model.specs.Projections.{project}
use Rattle.pipeline_eval.proofs.steps.projected.Given as goal

abbrev pub invariant-loop-document : goal.invariant-loop-document
invariant-loop-document l =
    map arc_value l.left.items ++ map (project l.rules) (map arc_value (drop l.document-index l.documents)) ≡ map (project l.rules) (map arc_value l.documents)
