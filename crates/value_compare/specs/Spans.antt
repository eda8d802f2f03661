-- What a span of the program is as plain data.
use Rattle.value_compare.specs.declared.span.Span.{Span}
use Rattle.value_compare.specs.declared.span.Span.TheVariants.{Range, Point}
use Rattle.value_model.specs.Keys as keys
use Rattle.value_model.specs.Keys.{range_span, point_span}

abbrev pub span_of : Span → keys.Span
span_of (Range range) = range_span range
span_of (Point key) = point_span key
