use Rattle.std.proofs.lemmas.Result.{err_from_is_err_and}
use Rattle.field_paths.proofs.FieldLists.{passes_on}
use Rattle.group_accum.specs.PartReading.{parts_of}
use Rattle.group_accum.proofs.PartLoops.{begins, ends, fails_there, goes_on}
use Rattle.group_accum.proofs.parser.parse_parts.Goals as goal

pub loop-field-init : goal.loop-field-init
loop-field-init c = begins (record { keys = c.new.result; fields = c.new-2.result }) _ _ c.new.ensures.items c.new-2.ensures.items c.fields-field-items.ensures.fields

pub loop-field-preserved : goal.loop-field-preserved
loop-field-preserved c =
    goes_on (parts_of c.loop-field.parts) (parts_of c.push_part.new.parts) c.fields-field-items.result.now c.loop-field.field-index c.field-item.result _
    c.loop-field-test.true c.field-item.is c.in_ok-push_part.ensures.pushed c.loop-field.invariant

pub returns-in_err-push_part : goal.returns-in_err-push_part
returns-in_err-push_part c =
    let p = err_from_is_err_and c.from_residual.result c.from_residual.ensures.1 in
    record {
      gives =
          rw (p.1, p.2)
          (passes_on _ _ _
          (λ f h. fails_there (parts_of c.loop-field.parts) c.fields-field-items.result.now c.loop-field.field-index c.field-item.result _ f
          c.loop-field-test.true c.field-item.is c.loop-field.invariant h)
          c.in_err-push_part.ensures.fault);
    }

pub returns : goal.returns
returns c = record {
  gives = ends (parts_of c.loop-field.parts) c.fields-field-items.result.now c.loop-field.field-index _ c.loop-field-test.false c.loop-field.invariant;
}
