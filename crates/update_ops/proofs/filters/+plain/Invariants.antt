-- What is nested in a filter is smaller. What is left of it is plain where the whole is.
use Rattle.std.proofs.Common.{◌≡◌, ◌+◌, ◌*◌, drop}
use Rattle.bson_values.specs.Sizes.{datum_size, fields_size}
use Rattle.bson_values.specs.View.{datum_of, fields_of}
use Rattle.update_ops.specs.Starts.{are_plain_operators, is_plain_filter}
use Rattle.update_ops.proofs.filters.+plain.Given as goal

abbrev pub decreases-is_plain_filter : goal.decreases-is_plain_filter
decreases-is_plain_filter l = 4 * fields_size l.filter.now + 1

abbrev pub decreases-is_plain_asked : goal.decreases-is_plain_asked
decreases-is_plain_asked l = 4 * datum_size (datum_of l.value.now)

abbrev pub decreases-are_plain_operators : goal.decreases-are_plain_operators
decreases-are_plain_operators l = 4 * fields_size l.document.now + 2

abbrev pub decreases-is_plain_operand : goal.decreases-is_plain_operand
decreases-is_plain_operand l = 4 * datum_size (datum_of l.value.now) + 1

abbrev pub decreases-is_plain_inside : goal.decreases-is_plain_inside
decreases-is_plain_inside l = 4 * fields_size l.document.now + 4

abbrev pub decreases-is_plain_element : goal.decreases-is_plain_element
decreases-is_plain_element l = 4 * fields_size l.document.now + 3

abbrev pub invariant-is_plain_filter-loop-field : goal.invariant-is_plain_filter-loop-field
invariant-is_plain_filter-loop-field l = is_plain_filter (fields_of (drop l.field-index l.field-items)) ≡ is_plain_filter l.filter

abbrev pub invariant-are_plain_operators-loop-field : goal.invariant-are_plain_operators-loop-field
invariant-are_plain_operators-loop-field l = are_plain_operators (fields_of (drop l.field-index l.field-items)) ≡ are_plain_operators l.document
