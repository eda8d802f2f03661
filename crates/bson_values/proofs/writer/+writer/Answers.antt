use Rattle.std.proofs.Common.{arith}
use Rattle.bson_model.specs.Spelling.{written_items, written_fields}
use Rattle.bson_model.proofs.Lengths.{length-framed}
use Rattle.bson_values.proofs.Puts.{all_fields_put, all_items_put, closed_kept, closed_ok, kept_behind, kept_on, opened_length, put_item, put_field}
use Rattle.bson_values.proofs.writer.+writer.Goals as goal

pub put_document-loop-field-preserved : goal.put_document-loop-field-preserved
put_document-loop-field-preserved t c = record {
  whole = c.loop-field.invariant.whole;
  puts =
      put_field _ _ c.loop-field.out.items c.put_head.new.out.items c.put_value.new.out.items c.as_str.result.now c.deref-field-items.result.now
      c.loop-field.field-index c.type_byte.result c.field-item.result c.loop-field.invariant.puts c.loop-field-test.true c.field-item.is
      c.type_byte.ensures c.as_str.ensures.text c.in_ok-put_head.ensures.ok c.in_ok-put_value.ensures.ok;
}

pub put_document-returns-in_err-put_head-clause-kept : goal.put_document-returns-in_err-put_head-clause-kept
put_document-returns-in_err-put_head-clause-kept t c =
    kept_behind c.args.out.now.items _ c.put_u32.new.out.items c.put_head.new.out.items c.in_ok-put_u32.ensures.ok
    (kept_on _ c.loop-field.out.items c.put_head.new.out.items c.loop-field.invariant.puts.kept c.in_err-put_head.ensures.kept)

pub put_document-returns-in_err-put_value-clause-kept : goal.put_document-returns-in_err-put_value-clause-kept
put_document-returns-in_err-put_value-clause-kept t c =
    kept_behind c.args.out.now.items _ c.put_u32.new.out.items c.put_value.new.out.items c.in_ok-put_u32.ensures.ok
    (kept_on _ c.put_head.new.out.items c.put_value.new.out.items
    (kept_on _ c.loop-field.out.items c.put_head.new.out.items c.loop-field.invariant.puts.kept c.in_ok-put_head.ensures.kept) c.in_err-put_value.ensures.kept)

pub put_document-end_document-requires-clause-room : goal.put_document-end_document-requires-clause-room
put_document-end_document-requires-clause-room t c =
    omega (
      arith,
      opened_length c.len-start.result c.args.out.now.items c.put_u32.new.out.items (written_fields c.args.document.now) c.loop-field.out.items (omega arith) c.in_ok-put_u32.ensures.ok
          (all_fields_put _ _ c.loop-field.out.items c.deref-field-items.result.now c.loop-field.field-index c.loop-field.invariant.puts c.loop-field-test.false),
    )

pub put_document-end_document-requires-clause-short : goal.put_document-end_document-requires-clause-short
put_document-end_document-requires-clause-short t c =
    omega (
      arith,
      length-framed (written_fields c.args.document.now),
      opened_length c.len-start.result c.args.out.now.items c.put_u32.new.out.items (written_fields c.args.document.now) c.loop-field.out.items (omega arith) c.in_ok-put_u32.ensures.ok
          (all_fields_put _ _ c.loop-field.out.items c.deref-field-items.result.now c.loop-field.field-index c.loop-field.invariant.puts c.loop-field-test.false),
    )

pub put_document-returns-clause-ok : goal.put_document-returns-clause-ok
put_document-returns-clause-ok t c =
    closed_ok c.end_document.result c.len-start.result c.args.out.now.items c.put_u32.new.out.items (written_fields c.args.document.now) c.loop-field.out.items
    c.end_document.new.out.items (omega arith) c.in_ok-put_u32.ensures.ok
    (all_fields_put _ _ c.loop-field.out.items c.deref-field-items.result.now c.loop-field.field-index c.loop-field.invariant.puts c.loop-field-test.false) c.end_document.ensures.ok

pub put_document-returns-clause-kept : goal.put_document-returns-clause-kept
put_document-returns-clause-kept t c =
    closed_kept c.end_document.result c.len-start.result c.args.out.now.items c.put_u32.new.out.items (written_fields c.args.document.now) c.loop-field.out.items
    c.end_document.new.out.items (omega arith) c.in_ok-put_u32.ensures.ok
    (all_fields_put _ _ c.loop-field.out.items c.deref-field-items.result.now c.loop-field.field-index c.loop-field.invariant.puts c.loop-field-test.false) c.end_document.ensures.ok c.end_document.ensures.err

pub put_array-loop-i-preserved : goal.put_array-loop-i-preserved
put_array-loop-i-preserved t c = record {
  whole = c.loop-i.invariant.whole;
  puts =
      put_item _ _ c.loop-i.out.items c.put_head.new.out.items c.put_value.new.out.items c.format.result.now c.deref-value-items.result.now c.loop-i.i
      c.type_byte.result c.value-item.result c.loop-i.invariant.puts c.loop-i-test.true c.value-item.is c.type_byte.ensures c.format.ensures.text
      c.in_ok-put_head.ensures.ok c.in_ok-put_value.ensures.ok;
}

pub put_array-returns-in_err-put_head-clause-kept : goal.put_array-returns-in_err-put_head-clause-kept
put_array-returns-in_err-put_head-clause-kept t c =
    kept_behind c.args.out.now.items _ c.put_u32.new.out.items c.put_head.new.out.items c.in_ok-put_u32.ensures.ok
    (kept_on _ c.loop-i.out.items c.put_head.new.out.items c.loop-i.invariant.puts.kept c.in_err-put_head.ensures.kept)

pub put_array-returns-in_err-put_value-clause-kept : goal.put_array-returns-in_err-put_value-clause-kept
put_array-returns-in_err-put_value-clause-kept t c =
    kept_behind c.args.out.now.items _ c.put_u32.new.out.items c.put_value.new.out.items c.in_ok-put_u32.ensures.ok
    (kept_on _ c.put_head.new.out.items c.put_value.new.out.items
    (kept_on _ c.loop-i.out.items c.put_head.new.out.items c.loop-i.invariant.puts.kept c.in_ok-put_head.ensures.kept) c.in_err-put_value.ensures.kept)

pub put_array-end_document-requires-clause-room : goal.put_array-end_document-requires-clause-room
put_array-end_document-requires-clause-room t c =
    omega (
      arith,
      opened_length c.len-start.result c.args.out.now.items c.put_u32.new.out.items (written_items 0 c.args.array.now) c.loop-i.out.items (omega arith) c.in_ok-put_u32.ensures.ok
          (all_items_put _ _ c.loop-i.out.items c.deref-value-items.result.now c.loop-i.i c.loop-i.invariant.puts c.loop-i-test.false),
    )

pub put_array-end_document-requires-clause-short : goal.put_array-end_document-requires-clause-short
put_array-end_document-requires-clause-short t c =
    omega (
      arith,
      length-framed (written_items 0 c.args.array.now),
      opened_length c.len-start.result c.args.out.now.items c.put_u32.new.out.items (written_items 0 c.args.array.now) c.loop-i.out.items (omega arith) c.in_ok-put_u32.ensures.ok
          (all_items_put _ _ c.loop-i.out.items c.deref-value-items.result.now c.loop-i.i c.loop-i.invariant.puts c.loop-i-test.false),
    )

pub put_array-returns-clause-ok : goal.put_array-returns-clause-ok
put_array-returns-clause-ok t c =
    closed_ok c.end_document.result c.len-start.result c.args.out.now.items c.put_u32.new.out.items (written_items 0 c.args.array.now) c.loop-i.out.items
    c.end_document.new.out.items (omega arith) c.in_ok-put_u32.ensures.ok
    (all_items_put _ _ c.loop-i.out.items c.deref-value-items.result.now c.loop-i.i c.loop-i.invariant.puts c.loop-i-test.false) c.end_document.ensures.ok

pub put_array-returns-clause-kept : goal.put_array-returns-clause-kept
put_array-returns-clause-kept t c =
    closed_kept c.end_document.result c.len-start.result c.args.out.now.items c.put_u32.new.out.items (written_items 0 c.args.array.now) c.loop-i.out.items
    c.end_document.new.out.items (omega arith) c.in_ok-put_u32.ensures.ok
    (all_items_put _ _ c.loop-i.out.items c.deref-value-items.result.now c.loop-i.i c.loop-i.invariant.puts c.loop-i-test.false) c.end_document.ensures.ok c.end_document.ensures.err
