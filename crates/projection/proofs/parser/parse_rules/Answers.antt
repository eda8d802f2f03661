use Rattle.std.proofs.Common.{◌∙◌}
use Rattle.std.proofs.lemmas.Result.{err_from_is_err_and}
use Rattle.field_paths.proofs.FieldLists.{begins, ends, fails_there, goes_on, passes_on}
use Rattle.projection.proofs.RulesRead.{rules_each}
use Rattle.projection.specs.RuleReading.{read_rule}
use Rattle.projection.specs.View.{rule_of}
use Rattle.projection.proofs.parser.parse_rules.Goals as goal

pub loop-field-init : goal.loop-field-init
loop-field-init c = begins rule_of read_rule _ _ _ c.new-rules.ensures.items c.fields-field-items.ensures.fields ∙ rules_each c.args.document.now

pub loop-field-preserved : goal.loop-field-preserved
loop-field-preserved c =
    goes_on rule_of read_rule c.loop-field.rules.items _ c.in_ok-rule.rule c.fields-field-items.result.now c.loop-field.field-index
    c.field-item.result _ c.loop-field-test.true c.field-item.is c.in_ok-push.ensures.items c.in_ok-rule.ensures.gives c.loop-field.invariant

pub returns-in_err-rule : goal.returns-in_err-rule
returns-in_err-rule c =
    let p = err_from_is_err_and c.from_residual.result c.from_residual.ensures.1 in
    record {
      gives =
          rw (p.1, p.2)
          (passes_on _ _ _
          (λ f h. fails_there rule_of read_rule c.loop-field.rules.items c.fields-field-items.result.now c.loop-field.field-index c.field-item.result _ f
          c.loop-field-test.true c.field-item.is c.loop-field.invariant h)
          c.in_err-rule.ensures.gives);
    }

pub returns : goal.returns
returns c = record {
  gives =
      ends rule_of read_rule c.loop-field.rules.items c.fields-field-items.result.now c.loop-field.field-index _ c.loop-field-test.false c.loop-field.invariant;
}
