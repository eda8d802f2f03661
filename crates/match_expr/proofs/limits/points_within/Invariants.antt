-- The points that were kept, and those that are left to be kept.
use Rattle.std.proofs.Common.{◌≡◌, ◌++◌, map}
use Rattle.std.specs.Prelude.{filter}
use Rattle.value_model.specs.Keys.{point_span}
use Rattle.value_compare.specs.Bounds.{bound_of}
use Rattle.value_compare.specs.Spans.{span_of}
use Rattle.query_model.specs.KeySpans.{is_within}
use Rattle.match_expr.proofs.limits.points_within.Given as goal

abbrev pub invariant-loop-key : goal.invariant-loop-key
invariant-loop-key l =
    map span_of l.spans.items ++ map point_span (filter (is_within (bound_of l.least) (bound_of l.greatest) l.with_greatest) l.key-iterator)
    ≡ map point_span (filter (is_within (bound_of l.least) (bound_of l.greatest) l.with_greatest) l.initial.key-iterator)
