use Rattle.std.proofs.Common.{rules, ◌≡◌, ◌∷◌, length, ℕ, ◌+◌, ◌-◌, ◌*◌, ◌<◌, ◌≤◌, ◌/◌, ◌%◌, Bool, true, false, nat_eq, nat_lt, List, [], ◌++◌, slice_index_or, slice_set, bit_and, bit_or, Fits, w8, w32, w64, Bor, MutBor}
use Rattle.std.specs.Cmp.Lexicographic.{slice_cmp}
use Rattle.std.specs.Ordering.{nat_cmp, ordering_then}
use Rattle.value_model.specs.Tree.{field, Fields}
use Rattle.bson_values.specs.View.{datum_of}
use Rattle.value_model.specs.Order.{class_of, order, order_items, order_fields, order_scalars, order_within, scalar_of}
use Rattle.value_compare.proofs.order.class.Goals as goal

-- src/order.rt:15:1
pub returns-in-Date : goal.returns-in-Date
returns-in-Date c = search rules
