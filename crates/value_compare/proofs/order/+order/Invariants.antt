-- What is left of both still compares as the whole does.
use Rattle.std.proofs.Common.{◌≡◌, drop}
use Rattle.std.specs.Slice.Iter.{iter_rest}
use Rattle.bson_values.specs.View.{items_of, fields_of}
use Rattle.value_model.specs.Order.{order_items, order_fields}
use Rattle.value_compare.proofs.order.+order.Given as goal

abbrev pub invariant-compare_arrays-loop-value : goal.invariant-compare_arrays-loop-value
invariant-compare_arrays-loop-value l =
    order_items (items_of (drop l.value-index l.value-items)) (items_of (iter_rest l.others)) ≡ order_items l.a l.b

abbrev pub invariant-compare_documents-loop-field : goal.invariant-compare_documents-loop-field
invariant-compare_documents-loop-field l =
    order_fields (fields_of (drop l.field-index l.field-items)) (fields_of (iter_rest l.others)) ≡ order_fields l.a l.b
