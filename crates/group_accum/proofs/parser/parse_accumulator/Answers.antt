use Rattle.std.proofs.Common.{◌≡◌, Err, ap, ◌∙◌, subst, arith}
use Rattle.bson_values.specs.declared.value.Value.{Value}
use Rattle.bson_model.specs.Tree.{Fields, document_value}
use Rattle.bson_values.specs.View.{datum_of}
use Rattle.query_model.specs.Queries.{bad_operand}
use Rattle.pipeline_model.specs.GroupSpecs.{read_accumulator}
use Rattle.group_accum.proofs.PartsRead.{some_fields}
use Rattle.group_accum.proofs.parser.parse_accumulator.Goals as goal

pub returns-in-len2-up : goal.returns-in-len2-up
returns-in-len2-up c = record {
  gives =
      ap (λ (v : Value). read_accumulator (datum_of v)) c.in-Doc.is
      ∙ subst (λ (ms : Fields). read_accumulator (document_value ms) ≡ Err bad_operand) c.fields.ensures.fields
      (some_fields c.fields.result.now (omega (arith, c.in-len2-up.len_at_least)));
}
