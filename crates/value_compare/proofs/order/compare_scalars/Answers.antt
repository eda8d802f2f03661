use Rattle.std.proofs.Common.{rules, ◌≡◌, ◌∷◌, length, ℕ, ◌+◌, ◌-◌, ◌*◌, ◌<◌, ◌≤◌, ◌/◌, ◌%◌, Bool, true, false, nat_eq, nat_lt, List, [], ◌++◌, slice_index_or, slice_set, bit_and, bit_or, Fits, w8, w32, w64, Bor, MutBor, ℤ, pos, ◌+ℤ◌, ◌-ℤ◌, ◌*ℤ◌, ◌≤ℤ◌, ◌<ℤ◌, FitsSigned, to_z, of_z}
use Rattle.std.specs.Cmp.Lexicographic.{slice_cmp}
use Rattle.std.specs.Ordering.{nat_cmp, ordering_then}
use Rattle.value_model.specs.Tree.{field, Fields}
use Rattle.bson_values.specs.View.{datum_of}
use Rattle.value_model.specs.Order.{class_of, order, order_items, order_fields, order_scalars, order_within, scalar_of}
use Rattle.value_compare.proofs.order.compare_scalars.Goals as goal

-- src/order.rt:60:1
pub returns-in-Int32-Int64 : goal.returns-in-Int32-Int64
returns-in-Int32-Int64 c = search rules
