-- What is left excludes where the whole does.
use Rattle.std.proofs.Common.{◌≡◌, drop}
use Rattle.pipeline_model.specs.Projections.{is_excluding}
use Rattle.projection.specs.View.{rules_of}
use Rattle.projection.proofs.rules.is_excluding.Given as goal

abbrev pub invariant-loop-rule : goal.invariant-loop-rule
invariant-loop-rule l = is_excluding (rules_of (drop l.rule-index l.rules)) ≡ is_excluding (rules_of l.rules)
