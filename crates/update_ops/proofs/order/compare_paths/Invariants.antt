-- The rests of both compare as the whole paths do.
use Rattle.std.proofs.Common.{◌≡◌, drop}
use Rattle.std.specs.Slice.Iter.{iter_rest}
use Rattle.query_model.specs.Changes.{path_order}
use Rattle.update_ops.proofs.order.compare_paths.Given as goal

abbrev pub invariant-loop-name : goal.invariant-loop-name
invariant-loop-name l = path_order (drop l.name-index l.a) (iter_rest l.others) ≡ path_order l.a l.b
