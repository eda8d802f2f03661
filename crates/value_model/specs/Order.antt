-- The one order of values (MongoDB manual, "Comparison/Sort Order"): by class, and then within the class.
use Rattle.std.specs.Prelude.{ℕ, ℤ, pos, List, [], ◌∷◌, length, Bool, true, false}
use Rattle.std.specs.declared.cmp.Ordering.{Ordering}
use Rattle.std.specs.declared.cmp.Ordering.TheVariants.{Less, Equal, Greater}
use Rattle.std.specs.Ordering.{ordering_then, nat_cmp, int_cmp, on, then_cmp, eq_by_cmp}
use Rattle.std.specs.Cmp.Lexicographic.{slice_cmp}
use Rattle.bson_model.specs.Tree.{Datum, string_value, document_value, array_value, binary_value, object_id_value, boolean_value, date_value, null_value, int32_value, timestamp_value, int64_value, min_key_value, max_key_value, Items, no_items, item, Fields, no_fields, field}

-- the classes, lowest first; numbers of both kinds are one
abbrev pub class_of : Datum → ℕ
class_of min_key_value = 0
class_of null_value = 1
class_of (int32_value z) = 2
class_of (int64_value z) = 2
class_of (string_value s) = 3
class_of (document_value ms) = 4
class_of (array_value ds) = 5
class_of (binary_value subtype content) = 6
class_of (object_id_value content) = 7
class_of (boolean_value b) = 8
class_of (date_value z) = 9
class_of (timestamp_value n) = 10
class_of max_key_value = 11

abbrev pub boolean_rank : Bool → ℤ
boolean_rank false = pos 0
boolean_rank true = pos 1

-- What a value without values inside compares by within its class: a number, and then bytes. A binary compares by its
-- length, its subtype and its bytes.
abbrev pub scalar_of : Datum → ℤ × List ℕ
scalar_of (int32_value z) = (z, [])
scalar_of (int64_value z) = (z, [])
scalar_of (string_value s) = (pos 0, s)
scalar_of (binary_value subtype content) = (pos 0, length content ∷ subtype ∷ content)
scalar_of (object_id_value content) = (pos 0, content)
scalar_of (boolean_value b) = (boolean_rank b, [])
scalar_of (date_value z) = (z, [])
scalar_of (timestamp_value n) = (pos n, [])
scalar_of d = (pos 0, [])

abbrev pub order_scalars : ℤ × List ℕ → ℤ × List ℕ → Ordering
order_scalars = then_cmp (on (λ s. s.0) int_cmp) (on (λ s. s.1) (slice_cmp nat_cmp))

abbrev mutual
  -- within one class
  pub order_within : Datum → Datum → Ordering
  order_within (document_value ms) (document_value ns) = order_fields ms ns
  order_within (array_value ds) (array_value es) = order_items ds es
  order_within a b = order_scalars (scalar_of a) (scalar_of b)

  -- value by value, by class and then within it; the shorter of two arrays is less
  pub order_items : Items → Items → Ordering
  order_items no_items no_items = Equal
  order_items no_items (item e es) = Less
  order_items (item d ds) no_items = Greater
  order_items (item d ds) (item e es) =
      ordering_then (nat_cmp (class_of d) (class_of e)) (ordering_then (order_within d e) (order_items ds es))

  -- field by field, by the value's class, the name and then the value; the shorter of two documents is less
  pub order_fields : Fields → Fields → Ordering
  order_fields no_fields no_fields = Equal
  order_fields no_fields (field n e ns) = Less
  order_fields (field m d ms) no_fields = Greater
  order_fields (field m d ms) (field n e ns) =
      ordering_then (nat_cmp (class_of d) (class_of e)) (ordering_then (slice_cmp nat_cmp m n) (ordering_then (order_within d e) (order_fields ms ns)))

-- the order of values
abbrev pub order : Datum → Datum → Ordering
order = then_cmp (on class_of nat_cmp) order_within

-- neither is less
abbrev pub same_value : Datum → Datum → Bool
same_value = eq_by_cmp order
