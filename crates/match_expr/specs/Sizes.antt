-- How many queries and tests are inside, and how many parts their paths have: the measure of a recursion over queries.
use Rattle.std.specs.Prelude.{ℕ, suc, ◌+◌, length}
use Rattle.query_model.specs.Queries.{Query, no_clauses, clause, Clause, path_clause, connective_clause, Queries, no_queries, query, Tests, no_tests, test, Test, element_query_test, element_tests_test, not_test}

abbrev mutual
  pub query_size : Query → ℕ
  query_size no_clauses = 0
  query_size (clause first others) = clause_size first + query_size others

  pub clause_size : Clause → ℕ
  clause_size (path_clause path tests) = suc (length path + tests_size tests)
  clause_size (connective_clause join queries) = suc (queries_size queries)

  pub queries_size : Queries → ℕ
  queries_size no_queries = 0
  queries_size (query first others) = suc (query_size first) + queries_size others

  pub tests_size : Tests → ℕ
  tests_size no_tests = 0
  tests_size (test first others) = test_size first + tests_size others

  pub test_size : Test → ℕ
  test_size (element_query_test inner) = suc (query_size inner)
  test_size (element_tests_test tests) = suc (tests_size tests)
  test_size (not_test tests) = suc (tests_size tests)
  test_size first = 0
