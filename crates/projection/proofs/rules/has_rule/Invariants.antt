-- What is left has such a rule where the whole has.
use Rattle.std.proofs.Common.{◌≡◌, drop}
use Rattle.pipeline_model.specs.Projections.{has_rule}
use Rattle.projection.specs.View.{has_kind, rules_of}
use Rattle.projection.proofs.rules.has_rule.Given as goal

abbrev pub invariant-loop-rule : goal.invariant-loop-rule
invariant-loop-rule l = has_rule (has_kind l.kind) (rules_of (drop l.rule-index l.rules)) l.name ≡ has_rule (has_kind l.kind) (rules_of l.rules) l.name
