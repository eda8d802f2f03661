-- The rests of both keys compare as the whole keys do.
use Rattle.std.proofs.Common.{◌≡◌, drop}
use Rattle.std.specs.Slice.Iter.{iter_rest}
use Rattle.pipeline_model.specs.SortKeys.{order_keys}
use Rattle.sort_keys.specs.View.{parts_of, sort_fields_of}
use Rattle.sort_keys.proofs.keys.compare_keys.Given as goal

abbrev pub invariant-loop-field : goal.invariant-loop-field
invariant-loop-field l =
    order_keys (sort_fields_of (drop l.field-index l.field-items)) (parts_of (iter_rest l.parts)) (parts_of (iter_rest l.others)) ≡ order_keys l.spec l.a l.b
