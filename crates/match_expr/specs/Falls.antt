-- What is inside a query, or inside tests, is smaller.
use Rattle.std.specs.Prelude.{◌≤◌, max, List, [], ◌∷◌, ◌+◌}
use Rattle.std.proofs.Common.{arith}
use denote.Param.Weighed.{most}
use Rattle.query_model.specs.Queries.{Query, no_clauses, no_queries, no_tests}
use Rattle.match_expr.specs.declared.tree.Clause.{Clause}
use Rattle.match_expr.specs.declared.tree.Clause.TheVariants.{At, Equal, Joined}
use Rattle.match_expr.specs.declared.tree.Test.{Test}
use Rattle.match_expr.specs.declared.tree.Test.TheVariants.{Eq, Ne, Gt, Gte, Lt, Lte, In, Nin, All, Size, Exists, ElementQuery, ElementTests, Not}
use Rattle.match_expr.specs.declared.tree.Clauses.TheDeep.{deep-Clause, deep-Test}
use Rattle.match_expr.specs.Sizes.{query_size, clause_size, queries_size, tests_size, test_size}
use Rattle.match_expr.specs.View.{clause_of, test_of, queries_before, query_before, tests_before}

pub queries_fall : (qs : List Query) → max (most (λ q. query_size q + 1) qs) 0 ≤ queries_size (queries_before qs no_queries)
queries_fall [] = omega arith
queries_fall (q ∷ qs) = omega (arith, queries_fall qs)

clause_falls : (c : Clause) → deep-Clause c ≤ clause_size (clause_of c)
clause_falls (At path tests) = omega arith
clause_falls (Equal path operand) = omega arith
clause_falls (Joined connective qs) = omega arith

test_falls : (t : Test) → deep-Test t ≤ test_size (test_of t)
test_falls (Eq v) = omega arith
test_falls (Ne v) = omega arith
test_falls (Gt v) = omega arith
test_falls (Gte v) = omega arith
test_falls (Lt v) = omega arith
test_falls (Lte v) = omega arith
test_falls (In ds) = omega arith
test_falls (Nin ds) = omega arith
test_falls (All ds) = omega arith
test_falls (Size n) = omega arith
test_falls (Exists b) = omega arith
test_falls (ElementQuery inner) = omega arith
test_falls (ElementTests tests) = omega arith
test_falls (Not tests) = omega arith

pub clauses_fall : (cs : List Clause) → max (most (λ c. deep-Clause c) cs) 0 ≤ query_size (query_before cs no_clauses)
clauses_fall [] = omega arith
clauses_fall (c ∷ cs) = omega (arith, clause_falls c, clauses_fall cs)

pub tests_fall : (ts : List Test) → max (most (λ t. deep-Test t) ts) 0 ≤ tests_size (tests_before ts no_tests)
tests_fall [] = omega arith
tests_fall (t ∷ ts) = omega (arith, test_falls t, tests_fall ts)
