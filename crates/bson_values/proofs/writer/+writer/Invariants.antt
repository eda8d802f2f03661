use Rattle.std.proofs.Common.{◌≡◌, drop}
use Rattle.bson_model.specs.Spelling.{written_items, written_fields}
use Rattle.bson_values.specs.View.{items_of, fields_of}
use Rattle.bson_values.proofs.Puts.{Puts}
use Rattle.bson_values.proofs.writer.+writer.Given as goal

abbrev pub invariant-put_array-loop-i : goal.invariant-put_array-loop-i
invariant-put_array-loop-i l = record {
  whole : items_of l.value-items ≡ l.array;
  puts : Puts (written_items 0 l.array) l.initial.out.items l.out.items (written_items l.i (items_of (drop l.i l.value-items)));
}

abbrev pub invariant-put_document-loop-field : goal.invariant-put_document-loop-field
invariant-put_document-loop-field l = record {
  whole : fields_of l.field-items ≡ l.document;
  puts : Puts (written_fields l.document) l.initial.out.items l.out.items (written_fields (fields_of (drop l.field-index l.field-items)));
}
