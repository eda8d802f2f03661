use Rattle.std.proofs.Common.{◌∙◌}
use Rattle.std.proofs.lemmas.Result.{err_from_is_err_and}
use Rattle.field_paths.proofs.FieldLists.{begins, ends, fails_there, goes_on, passes_on}
use Rattle.sort_keys.proofs.FieldsRead.{fields_each}
use Rattle.sort_keys.specs.FieldReading.{read_sort_field}
use Rattle.sort_keys.specs.View.{field_of}
use Rattle.sort_keys.proofs.parser.parse_fields.Goals as goal

pub loop-field-init : goal.loop-field-init
loop-field-init c = begins field_of read_sort_field _ _ _ c.new-fields.ensures.items c.fields-field-items.ensures.fields ∙ fields_each c.args.document.now

pub loop-field-preserved : goal.loop-field-preserved
loop-field-preserved c =
    goes_on field_of read_sort_field c.loop-field.fields.items _ c.in_ok-parsed.parsed c.fields-field-items.result.now c.loop-field.field-index
    c.field-item.result _ c.loop-field-test.true c.field-item.is c.in_ok-push.ensures.items c.in_ok-parsed.ensures.gives c.loop-field.invariant

pub returns-in_err-parsed : goal.returns-in_err-parsed
returns-in_err-parsed c =
    let p = err_from_is_err_and c.from_residual.result c.from_residual.ensures.1 in
    record {
      gives =
          rw (p.1, p.2)
          (passes_on _ _ _
          (λ f h. fails_there field_of read_sort_field c.loop-field.fields.items c.fields-field-items.result.now c.loop-field.field-index c.field-item.result _ f
          c.loop-field-test.true c.field-item.is c.loop-field.invariant h)
          c.in_err-parsed.ensures.gives);
    }

pub returns : goal.returns
returns c = record {
  gives =
      ends field_of read_sort_field c.loop-field.fields.items c.fields-field-items.result.now c.loop-field.field-index _ c.loop-field-test.false c.loop-field.invariant;
}
