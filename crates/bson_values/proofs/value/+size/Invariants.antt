use Rattle.std.proofs.Common.{◌≡◌, drop}
use Rattle.bson_model.specs.Spelling.{written_items, written_fields}
use Rattle.bson_values.specs.View.{items_of, fields_of}
use Rattle.bson_values.proofs.Lengths.{Counts}
use Rattle.bson_values.proofs.value.+size.Given as goal

abbrev pub invariant-Array::size-loop-i : goal.invariant-Array::size-loop-i
invariant-Array::size-loop-i l = record {
  whole : items_of l.value-items ≡ l.self;
  counts : Counts (written_items 0 l.self) (written_items l.i (items_of (drop l.i l.value-items))) l.size;
}

abbrev pub invariant-Document::size-loop-field : goal.invariant-Document::size-loop-field
invariant-Document::size-loop-field l = record {
  whole : fields_of l.field-items ≡ l.self;
  counts : Counts (written_fields l.self) (written_fields (fields_of (drop l.field-index l.field-items))) l.size;
}
