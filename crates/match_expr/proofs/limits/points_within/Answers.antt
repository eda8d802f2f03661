use Rattle.std.proofs.Common.{◌≡◌, ◌∙◌, ◌++◌, map, sym, ap, subst}
use Rattle.std.specs.Prelude.{filter}
use Rattle.std.proofs.lemmas.List.{append-nil}
use Rattle.std.proofs.lemmas.List.Kept.{IsStrictlySortedBy-filter}
use Rattle.value_compare.specs.Bounds.{bound_of}
use Rattle.value_compare.specs.Spans.{span_of}
use Rattle.value_model.specs.Keys.{AreAscending, point_span}
use Rattle.value_model.specs.Order.{order}
use Rattle.query_model.proofs.SpanKeys.{points_ascend}
use Rattle.query_model.specs.KeySpans.{is_within}
use Rattle.match_expr.proofs.limits.points_within.Goals as goal

pub of-requires : goal.of-requires
of-requires c =
    let within = is_within (bound_of c.args.least.now) (bound_of c.args.greatest.now) c.args.with_greatest in
    let all = c.into_iter-key-iterator.result in
    let given = c.into_iter-key-iterator.ensures.into_iter_gives in
    let sorted = given.4 in
    let found = map span_of c.loop-key.spans.items in
    let none = c.in-None.ensures.steps.0 in
    let whole : found ≡ map point_span (filter within all) =
    sym (append-nil found) ∙ ap (λ rest. found ++ map point_span (filter within rest)) (sym none) ∙ c.loop-key.invariant in
    record {
      ascending = subst AreAscending (sym (whole ∙ ap (λ l. map point_span (filter within l)) given.0))
          (points_ascend (filter within c.args.keys.keys) (IsStrictlySortedBy-filter order within c.args.keys.keys sorted));
    }
