-- The rests of both are equal exactly where both are.
use Rattle.std.proofs.Common.{◌≡◌, ◌↔◌, drop}
use Rattle.std.specs.Slice.Iter.{iter_rest}
use Rattle.bson_values.specs.View.{items_of, fields_of}
use Rattle.bson_values.proofs.value.+equality.Given as goal

abbrev pub invariant-Array::same_data-loop-value : goal.invariant-Array::same_data-loop-value
invariant-Array::same_data-loop-value l =
    (items_of (drop l.value-index l.value-items) ≡ items_of (iter_rest l.others)) ↔ (l.self ≡ l.other)

abbrev pub invariant-Document::same_data-loop-field : goal.invariant-Document::same_data-loop-field
invariant-Document::same_data-loop-field l =
    (fields_of (drop l.field-index l.field-items) ≡ fields_of (iter_rest l.others)) ↔ (l.self ≡ l.other)
