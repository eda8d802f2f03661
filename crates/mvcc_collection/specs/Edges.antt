-- The edges of a span among keys, as a search in a map takes them: none below the least bound and above the greatest.
use Rattle.std.specs.Prelude.{Option, Some, None, if◌then◌else◌}
use Rattle.std.specs.Ordering.{is_gt}
use Rattle.std.specs.declared.ops.Bound as edges
use Rattle.std.specs.declared.ops.Bound.TheVariants.{Included, Excluded, Unbounded}
use Rattle.bson_values.specs.Tree.{Datum}
use Rattle.value_compare.specs.Keys.{Bound, min_bound, key_bound, max_bound, Range, Span, range_span, point_span, IsRange, inside, order_bounds}

-- of a least bound
abbrev pub lower_edge : Bound → edges.Bound Datum
lower_edge min_bound = Unbounded
lower_edge (key_bound key) = Included key
lower_edge max_bound = Unbounded

-- of a greatest bound
abbrev pub upper_edge : Bound → edges.Bound Datum
upper_edge min_bound = Unbounded
upper_edge (key_bound key) = Excluded key
upper_edge max_bound = Unbounded

abbrev pub first_edge : Span → edges.Bound Datum
first_edge (range_span range) = lower_edge range.min
first_edge (point_span key) = Included key

abbrev pub last_edge : Span → edges.Bound Datum
last_edge (range_span range) = upper_edge range.max
last_edge (point_span key) = Included key

-- of the keys of a range, or of those after a key; none where the key is above the range
abbrev pub least_edge : Range → Option Datum → Option (edges.Bound Datum)
least_edge range None = Some (lower_edge range.min)
least_edge range (Some key) =
    if inside (range_span range) key then Some (Excluded key)
    else if is_gt (order_bounds range.min (key_bound key)) then Some (lower_edge range.min) else None

-- a range goes upwards
abbrev pub IsSpan : Span → Type 0
IsSpan (range_span range) = IsRange range
IsSpan (point_span key) = Unit {0}
