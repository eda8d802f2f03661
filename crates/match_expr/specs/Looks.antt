-- What tests of the program look at, and when a candidate passes.
use Rattle.std.specs.Prelude.{ℕ, length, Bool, ◌&&◌, ◌||◌, ◌==◌}
use Rattle.std.specs.List.{list_any}
use Rattle.std.specs.declared.cmp.Ordering.{Ordering}
use Rattle.std.specs.Ordering.{is_lt, is_le, is_gt, is_ge}
use Rattle.bson_values.specs.View.{datum_of}
use Rattle.bson_values.specs.Tree.{Datum, Items}
use Rattle.value_compare.specs.Order.{class_of, order, same_value}
use Rattle.query_model.specs.Holds.{Found, found_at, alone, is_end}
use Rattle.query_model.specs.Paths.{elements, elements_of}
use Rattle.match_expr.specs.declared.tests.Place.{Place}
use Rattle.match_expr.specs.declared.tests.Place.TheVariants.{At, Alone}
use Rattle.match_expr.specs.declared.tests.Comparison.{Comparison}
use Rattle.match_expr.specs.declared.tests.Comparison.TheVariants.{Greater, GreaterOrEqual, Less, LessOrEqual}

abbrev pub found_of : Place → Found
found_of (At path document) = found_at path.now document.now
found_of (Alone v) = alone (datum_of v.now)

abbrev pub passes : Comparison → Ordering → Bool
passes Greater = is_gt
passes GreaterOrEqual = is_ge
passes Less = is_lt
passes LessOrEqual = is_le

-- a value of the operand's class that compares so with it
abbrev pub is_ordered : Comparison → Datum → Datum → Bool
is_ordered comparison x d = (is_end x || class_of d == class_of x) && passes comparison (order d x)

-- a value that equals one of the operands
abbrev pub is_listed : Items → Datum → Bool
is_listed xs d = list_any (λ x. same_value x d) (elements xs)

-- a value, or an element of it, that passes
abbrev pub with_elements : (Datum → Bool) → Datum → Bool
with_elements test d = test d || list_any test (elements_of d)

-- how many parts a path has that is still to be gone
abbrev pub parts_ahead : Place → ℕ
parts_ahead (At path document) = length path.now
parts_ahead (Alone v) = 0
