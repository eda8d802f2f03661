use Rattle.std.proofs.Common.{length, refl, sym, arith, ◌<◌, ◌∙◌}
use Rattle.std.proofs.lemmas.Int.{to_z-of_z}
use Rattle.std.proofs.lemmas.Result.{err_from_is_err_and}
use Rattle.bson_model.specs.Tree.{int32_value, string_value}
use Rattle.bson_values.proofs.Heads.{field_behind_type, field_behind_name, item_behind_head, int32_value_at, text_behind_string}
use Rattle.bson_values.specs.Readers.{field_behind}
use Rattle.bson_values.proofs.Leaves.{named_no_zero}
use Rattle.bson_values.proofs.ReaderLoops.{passes_on, goes_on, ends, fails, behind_length, items_goes_on, items_ends, items_fails, items_behind_length}
use Rattle.bson_values.proofs.reader.+reader.Goals as goal

pub read_item-returns-in_err-head-clause-gives : goal.read_item-returns-in_err-head-clause-gives
read_item-returns-in_err-head-clause-gives t c =
    let p = err_from_is_err_and c.from_residual.result c.from_residual.ensures.1 in
    rw (p.1, p.2) (passes_on _ _ _ (λ h. item_behind_head c.args.total c.args.room _ _ _ _ h refl) c.in_err-head.ensures.gives)

pub read_item-returns-in_default-clause-gives : goal.read_item-returns-in_default-clause-gives
read_item-returns-in_default-clause-gives t c =
    let gives = rw c.in_default.is at c.in_ok-head.ensures.gives in
    item_behind_head c.args.total c.args.room _ _ _ _ gives refl

pub read_item-returns-in_err-value-clause-gives : goal.read_item-returns-in_err-value-clause-gives
read_item-returns-in_err-value-clause-gives t c =
    let gives = rw c.in-Some.is at c.in_ok-head.ensures.gives in
    let p = err_from_is_err_and c.from_residual-in_err-value.result c.from_residual-in_err-value.ensures.1 in
    rw (p.1, p.2)
    (passes_on _ _ _ (λ h. item_behind_head c.args.total c.args.room _ _ _ _ gives (rw h refl)) c.in_err-value.ensures.gives)

pub read_item-returns-clause-gives : goal.read_item-returns-clause-gives
read_item-returns-clause-gives t c =
    let gives = rw c.in-Some.is at c.in_ok-head.ensures.gives in
    item_behind_head c.args.total c.args.room _ _ _ _ gives (rw c.in_ok-value.ensures.gives refl)

pub read_array-returns-in_err-value-clause-gives : goal.read_array-returns-in_err-value-clause-gives
read_array-returns-in_err-value-clause-gives t c =
    let p = err_from_is_err_and c.from_residual-in_err-value.result c.from_residual-in_err-value.ensures.1 in
    rw (p.1, p.2)
    (passes_on _ _ _ (λ h. items_behind_length c.args.total _ c.args.room _ _ _ _ c.in_ok-count.ensures.gives (items_fails c.args.total _ _ _ c.items.array c.items.space c.items.left.now _ h c.items.invariant.read)) c.in_err-value.ensures.gives)

pub read_array-returns-in_default-clause-gives : goal.read_array-returns-in_default-clause-gives
read_array-returns-in_default-clause-gives t c =
    let gives = rw c.in_default.is at c.in_ok-value.ensures.gives in
    rw c.give_back_room.ensures
    (items_behind_length c.args.total _ c.args.room _ _ _ _ c.in_ok-count.ensures.gives
    (items_ends c.args.total _ _ _ c.items.array c.items.space c.items.left.now _ gives c.items.invariant.read))

pub read_array-items-preserved : goal.read_array-items-preserved
read_array-items-preserved t c =
    let gives = rw c.in-Some.is at c.in_ok-value.ensures.gives in
    record {
      below = omega (arith, c.in_ok-value.ensures.rest);
      used = omega (arith, c.in_ok-value.ensures.rest);
      read =
          rw c.in_ok-push.ensures.ok
          (items_goes_on c.args.total _ _ _ c.items.array c.items.space c.items.left.now _ _ gives c.in_ok-value.ensures.rest.0 c.items.invariant.read);
    }

pub put_field-returns-in_err-number-in-Int32-clause-fails : goal.put_field-returns-in_err-number-in-Int32-clause-fails
put_field-returns-in_err-number-in-Int32-clause-fails t c =
    let p = err_from_is_err_and c.from_residual.result c.from_residual.ensures.1 in
    rw (p.1, p.2, c.in-Int32.is) (passes_on _ _ _ (λ h. int32_value_at _ _ _ _ ∙ h) c.in_err-number-in-Int32.ensures.gives)

pub put_field-returns-in_ok-push-in-Int32-clause-put : goal.put_field-returns-in_ok-push-in-Int32-clause-put
put_field-returns-in_ok-push-in-Int32-clause-put t c = (
  int32_value c.in_ok-number-in-Int32.number,
  rw c.in-Int32.is (int32_value_at _ _ _ _ ∙ c.in_ok-number-in-Int32.ensures.gives),
  grind (arith, to_z-of_z, c.in_ok-push-in-Int32.ensures.ok),
)

pub put_field-returns-in_err-text-in-Text-clause-fails : goal.put_field-returns-in_err-text-in-Text-clause-fails
put_field-returns-in_err-text-in-Text-clause-fails t c =
    let p = err_from_is_err_and c.from_residual-in_err-text-in-Text.result c.from_residual-in_err-text-in-Text.ensures.1 in
    rw (p.1, p.2, c.in-Text.is) (passes_on _ _ _ (λ h. text_behind_string _ _ _ _ _ h) c.in_err-text-in-Text.ensures.gives)

pub put_field-returns-in-Some-clause-put : goal.put_field-returns-in-Some-clause-put
put_field-returns-in-Some-clause-put t c = (
  string_value c.in_ok-text-in-Text.text.now,
  rw c.in-Text.is (text_behind_string _ _ _ _ _ c.in_ok-text-in-Text.ensures.gives),
  rw c.in-Some.ensures at c.in_ok-push-in-Text.ensures.ok,
)

pub put_field-returns-in_ok-push-in-Text-2-clause-put : goal.put_field-returns-in_ok-push-in-Text-2-clause-put
put_field-returns-in_ok-push-in-Text-2-clause-put t c = (
  string_value c.in_ok-text-in-Text.text.now,
  rw c.in-Text.is (text_behind_string _ _ _ _ _ c.in_ok-text-in-Text.ensures.gives),
  rw c.in_ok-text-in-Text-2.ensures at c.in_ok-push-in-Text-2.ensures.ok,
)

pub read_document-of_front-requires-clause-name : goal.read_document-of_front-requires-clause-name
read_document-of_front-requires-clause-name t c = named_no_zero _ _ _ _ c.in_ok-name.ensures.gives

pub read_document-returns-in_err-type_byte-clause-gives : goal.read_document-returns-in_err-type_byte-clause-gives
read_document-returns-in_err-type_byte-clause-gives t c =
    let p = err_from_is_err_and c.from_residual-in_err-type_byte.result c.from_residual-in_err-type_byte.ensures.1 in
    rw (p.1, p.2)
    (passes_on _ _ _ (λ h. behind_length c.args.total _ c.args.room _ _ _ _ c.in_ok-count.ensures.gives (fails c.args.total _ _ _ c.fields.document c.fields.space c.fields.left.now _ (field_behind_type c.args.total c.fields.space _ _ _ _ h refl) c.fields.invariant.read)) c.in_err-type_byte.ensures.gives)

pub read_document-returns-in_default-clause-gives : goal.read_document-returns-in_default-clause-gives
unfolding field_behind
read_document-returns-in_default-clause-gives t c =
    let gives = rw c.in_default.is at c.in_ok-type_byte.ensures.gives in
    rw c.give_back_room.ensures
    (behind_length c.args.total _ c.args.room _ _ _ _ c.in_ok-count.ensures.gives
    (ends c.args.total _ _ _ c.fields.document c.fields.space c.fields.left.now _ (field_behind_type c.args.total c.fields.space _ _ _ _ gives refl) c.fields.invariant.read))

pub read_document-returns-in_err-name-clause-gives : goal.read_document-returns-in_err-name-clause-gives
read_document-returns-in_err-name-clause-gives t c =
    let gives = rw c.in-Some.is at c.in_ok-type_byte.ensures.gives in
    let p = err_from_is_err_and c.from_residual-in_err-name.result c.from_residual-in_err-name.ensures.1 in
    rw (p.1, p.2)
    (passes_on _ _ _ (λ h. behind_length c.args.total _ c.args.room _ _ _ _ c.in_ok-count.ensures.gives (fails c.args.total _ _ _ c.fields.document c.fields.space c.fields.left.now _ (field_behind_name c.args.total c.fields.space _ _ _ _ _ _ gives h refl) c.fields.invariant.read)) c.in_err-name.ensures.gives)

pub read_document-returns-in_err-rest-clause-gives : goal.read_document-returns-in_err-rest-clause-gives
read_document-returns-in_err-rest-clause-gives t c =
    let gives = rw c.in-Some.is at c.in_ok-type_byte.ensures.gives in
    let p = err_from_is_err_and c.from_residual-in_err-rest.result c.from_residual-in_err-rest.ensures.1 in
    let named = rw (sym c.in_ok-name-2.ensures) at c.in_ok-name.ensures.gives in
    rw (p.1, p.2)
    (passes_on _ _ _ (λ h. behind_length c.args.total _ c.args.room _ _ _ _ c.in_ok-count.ensures.gives (fails c.args.total _ _ _ c.fields.document c.fields.space c.fields.left.now _ (field_behind_name c.args.total c.fields.space _ _ _ _ _ _ gives named (rw h refl)) c.fields.invariant.read)) c.in_err-rest.ensures.fails)

pub read_document-fields-preserved : goal.read_document-fields-preserved
read_document-fields-preserved t c =
    let gives = rw c.in-Some.is at c.in_ok-type_byte.ensures.gives in
    let named = rw (sym c.in_ok-name-2.ensures) at c.in_ok-name.ensures.gives in
    let put = c.in_ok-rest.ensures.put in
    let shorter : length c.in_ok-rest.rest.now < length c.fields.left.now = omega (arith, c.in_ok-type_byte.ensures.rest, c.in_ok-name.ensures.rest, c.in_ok-rest.ensures.rest) in
    record {
      below = omega (arith, shorter);
      used = omega (arith, shorter, c.in_ok-type_byte.ensures.rest, c.in_ok-name.ensures.rest, c.in_ok-rest.ensures.rest);
      read =
          rw put.2
          (goes_on c.args.total _ _ _ c.fields.document c.fields.space c.fields.left.now _ _ _ (field_behind_name c.args.total c.fields.space _ _ _ _ _ _ gives named (rw put.1 refl)) shorter c.fields.invariant.read);
    }
