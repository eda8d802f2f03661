-- The query falls. What is left of a list narrows the limits as the whole does.
use Rattle.std.proofs.Common.{◌≡◌, ◌+◌, ◌*◌, drop}
use Rattle.query_model.specs.KeySpans.{narrowed_by, narrowed_by_all}
use Rattle.query_model.specs.Queries.{no_clauses, no_queries}
use Rattle.match_expr.specs.Sizes.{clause_size, queries_size, query_size}
use Rattle.match_expr.specs.View.{clause_of, queries_before, query_before}
use Rattle.match_expr.proofs.limits.KeyLimits.+narrow.Given as goal

abbrev pub decreases-narrow_by_query : goal.decreases-narrow_by_query
decreases-narrow_by_query l = 3 * query_size l.query.now + 2

abbrev pub decreases-narrow_by_clause : goal.decreases-narrow_by_clause
decreases-narrow_by_clause l = 3 * clause_size (clause_of l.clause.now) + 1

abbrev pub decreases-narrow_by_all : goal.decreases-narrow_by_all
decreases-narrow_by_all l = 3 * queries_size l.queries.now + 2

abbrev pub invariant-narrow_by_query-loop-clause : goal.invariant-narrow_by_query-loop-clause
invariant-narrow_by_query-loop-clause l =
    narrowed_by (query_before (drop l.clause-index l.clause-items) no_clauses) l.self ≡ narrowed_by l.query l.initial.self

abbrev pub invariant-narrow_by_all-loop-query : goal.invariant-narrow_by_all-loop-query
invariant-narrow_by_all-loop-query l =
    narrowed_by_all (queries_before (drop l.query-index l.query-items) no_queries) l.self ≡ narrowed_by_all l.queries l.initial.self
