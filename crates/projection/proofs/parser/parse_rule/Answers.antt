use Rattle.std.proofs.Common.{ℕ, List, length, ap, arith}
use Rattle.bson_values.specs.View.{datum_of}
use Rattle.projection.proofs.RulesRead.{rule_read}
use Rattle.projection.proofs.parser.parse_rule.Goals as goal

pub returns : goal.returns
returns c = record {
  gives =
      rule_read c.args.field.now.name c.as_str.result.now c.in_ok-name.name (datum_of c.args.field.now.value) c.in_ok-path.path _ c.as_str.ensures.text
      c.in_ok-path.ensures.gives (omega (arith, ap (λ (x : List (List ℕ)). length x) c.parts.ensures.parts)) c.in_ok-treatment.ensures.gives c.in_ok-name.ensures;
}
