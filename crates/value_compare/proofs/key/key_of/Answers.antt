use Rattle.std.proofs.Common.{rules, ◌≡◌, ◌↔◌, Err, IfErr, IfOk, IsTrue, Ok, true, false, refl, ℕ, ◌+◌, ◌-◌, ◌*◌, ◌<◌, ◌≤◌, length, ◌/◌, ◌%◌, Bool, nat_eq, nat_lt, List, [], ◌∷◌, ◌++◌, slice_index_or, slice_set, bit_and, bit_or, Fits, w8, w32, w64, Bor, MutBor}
use Rattle.std.specs.Cmp.{partial_equiv_from_equiv, partial_order_from_agreeing_total}
use Rattle.std.specs.Ordering.{as_partial_cmp}
use Rattle.bson_values.specs.View.{datum_of}
use Rattle.value_model.specs.Keys.{absent_key, is_key, valid_key, wrong_kind}
use Rattle.value_model.specs.Order.{order, same_value}
use Rattle.value_compare.specs.declared.key.KeyFault.TheVariants.{Absent, Kind, Memory}
use Rattle.value_model.proofs.Flat.{order_total}
use Rattle.value_model.proofs.Spans.{same_value_equivalence}
use Rattle.value_compare.proofs.key.key_of.Goals as goal

-- src/key.rt:149:9
pub returns-in_default-clause-absent : goal.returns-in_default-clause-absent
returns-in_default-clause-absent c = search rules

-- src/key.rt:149:9
pub returns-in_default-clause-kind : goal.returns-in_default-clause-kind
returns-in_default-clause-kind c = search rules
