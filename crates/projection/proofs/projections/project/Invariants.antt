-- The fields appended, and those that the rules that are left compute, are the whole.
use Rattle.std.proofs.Common.{◌≡◌, drop}
use Rattle.bson_model.specs.Tree.{joined}
use Rattle.pipeline_model.specs.Projections.{computed_fields, project}
use Rattle.projection.specs.View.{rules_of}
use Rattle.projection.proofs.projections.project.Given as goal

abbrev pub invariant-loop-rule : goal.invariant-loop-rule
invariant-loop-rule l = joined l.left (computed_fields (rules_of (drop l.rule-index l.rule-items)) l.document) ≡ project l.projection l.document
