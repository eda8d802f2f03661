-- What a query of the program is as plain data. Queries and tests inside are seen as data already.
use Rattle.std.specs.Prelude.{List, [], ◌∷◌}
use Rattle.bson_values.specs.View.{datum_of}
use Rattle.query_model.specs.Queries as queries
use Rattle.query_model.specs.Queries.{and_connective, or_connective, nor_connective, clause, path_clause, connective_clause, query, test, no_tests, eq_test, ne_test, gt_test, gte_test, lt_test, lte_test, in_test, nin_test, all_test, size_test, exists_test, element_query_test, element_tests_test, not_test}
use Rattle.match_expr.specs.declared.tree.Connective.{Connective}
use Rattle.match_expr.specs.declared.tree.Connective.TheVariants.{And, Or, Nor}
use Rattle.match_expr.specs.declared.tree.Clause.{Clause}
use Rattle.match_expr.specs.declared.tree.Clause.TheVariants.{At, Equal, Joined}
use Rattle.match_expr.specs.declared.tree.Test.{Test}
use Rattle.match_expr.specs.declared.tree.Test.TheVariants.{Eq, Ne, Gt, Gte, Lt, Lte, In, Nin, All, Size, Exists, ElementQuery, ElementTests, Not}

abbrev pub connective_of : Connective → queries.Connective
connective_of And = and_connective
connective_of Or = or_connective
connective_of Nor = nor_connective

-- queries, and then those
abbrev pub queries_before : List queries.Query → queries.Queries → queries.Queries
queries_before [] others = others
queries_before (q ∷ qs) others = query q (queries_before qs others)

abbrev pub clause_of : Clause → queries.Clause
clause_of (At path tests) = path_clause path tests
clause_of (Equal path operand) = path_clause path (test (eq_test (datum_of operand)) no_tests)
clause_of (Joined connective qs) = connective_clause (connective_of connective) qs

abbrev pub test_of : Test → queries.Test
test_of (Eq v) = eq_test (datum_of v)
test_of (Ne v) = ne_test (datum_of v)
test_of (Gt v) = gt_test (datum_of v)
test_of (Gte v) = gte_test (datum_of v)
test_of (Lt v) = lt_test (datum_of v)
test_of (Lte v) = lte_test (datum_of v)
test_of (In ds) = in_test ds
test_of (Nin ds) = nin_test ds
test_of (All ds) = all_test ds
test_of (Size n) = size_test n
test_of (Exists b) = exists_test b
test_of (ElementQuery inner) = element_query_test inner
test_of (ElementTests tests) = element_tests_test tests
test_of (Not tests) = not_test tests

-- clauses, and then those
abbrev pub query_before : List Clause → queries.Query → queries.Query
query_before [] others = others
query_before (c ∷ cs) others = clause (clause_of c) (query_before cs others)

-- tests, and then those
abbrev pub tests_before : List Test → queries.Tests → queries.Tests
tests_before [] others = others
tests_before (t ∷ ts) others = test (test_of t) (tests_before ts others)
