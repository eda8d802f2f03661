-- The rules that are left are allowed together where the whole is.
use Rattle.std.proofs.Common.{◌≡◌, drop}
use Rattle.std.specs.List.{list_all}
use Rattle.pipeline_model.specs.Projections.{may_stand}
use Rattle.projection.specs.View.{rules_of}
use Rattle.projection.proofs.parser.all_may_stand.Given as goal

abbrev pub invariant-loop-rule : goal.invariant-loop-rule
invariant-loop-rule l =
    list_all (may_stand (rules_of l.rules)) (rules_of (drop l.rule-index l.rules)) ≡ list_all (may_stand (rules_of l.rules)) (rules_of l.rules)
