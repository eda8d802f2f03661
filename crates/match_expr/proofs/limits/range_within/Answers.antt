use Rattle.std.proofs.Common.{◌≡◌, map, refl, sym, subst}
use Rattle.value_compare.specs.Bounds.{bound_of}
use Rattle.value_compare.specs.Spans.{span_of}
use Rattle.value_model.specs.Keys.{AreAscending}
use Rattle.query_model.proofs.SpanKeys.{between_ascends}
use Rattle.query_model.specs.KeySpans.{spans_between}
use Rattle.match_expr.proofs.limits.range_within.Goals as goal

pub of-requires : goal.of-requires
of-requires c =
    let whole : map span_of c.in_ok-spans.spans.items ≡ spans_between (bound_of c.args.least) (bound_of c.args.greatest) c.args.with_greatest =
    rw (c.in_ok-spans.ensures, c.in_ok-range.ensures, c.in_ok-end.ensures, c.reaches_end-has_end.ensures) refl in
    record { ascending = subst AreAscending (sym whole) (between_ascends (bound_of c.args.least) (bound_of c.args.greatest) c.args.with_greatest) }
