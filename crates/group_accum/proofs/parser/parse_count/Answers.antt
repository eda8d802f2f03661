use Rattle.std.proofs.Common.{◌≡◌, Err, ap, ◌∙◌, subst, arith}
use Rattle.bson_values.specs.declared.value.Value.{Value}
use Rattle.bson_model.specs.Tree.{Fields, document_value}
use Rattle.bson_values.specs.View.{datum_of}
use Rattle.query_model.specs.Queries.{bad_operand}
use Rattle.pipeline_model.specs.GroupSpecs.{accumulate, count_name}
use Rattle.group_accum.proofs.PartsRead.{some_field}
use Rattle.group_accum.proofs.parser.parse_count.Goals as goal

pub returns-in_default-fields : goal.returns-in_default-fields
returns-in_default-fields c = record {
  gives =
      ap (λ (v : Value). accumulate count_name (datum_of v)) c.in-Doc.is
      ∙ subst (λ (ms : Fields). accumulate count_name (document_value ms) ≡ Err bad_operand) c.fields.ensures.fields
      (some_field c.fields.result.now (omega (arith, c.in_default-fields.len_at_least)));
}
