-- How a query is compared with others: as a document that holds its parts.
use Rattle.std.specs.Prelude.{◌≡◌, ℕ, ℤ, pos, List, [], ◌∷◌, Bool, false, ◌==◌, if◌then◌else◌, refl}
use Rattle.std.specs.Coded.{Coded, code_by}
use Rattle.bson_values.specs.Code.{fields_code, items_code}
use Rattle.bson_values.specs.Tree.{Datum, string_value, document_value, array_value, boolean_value, null_value, timestamp_value, int64_value, min_key_value, max_key_value, Items, no_items, item, Fields, no_fields, field}
use Rattle.query_model.specs.Paths.{Path}
use Rattle.query_model.specs.Queries.{Query, no_clauses, clause, Clause, path_clause, connective_clause, and_connective, or_connective, nor_connective, Queries, no_queries, query, Tests, no_tests, test, Test, eq_test, ne_test, gt_test, gte_test, lt_test, lte_test, in_test, nin_test, all_test, size_test, exists_test, element_query_test, element_tests_test, not_test}

abbrev pub path_items : Path → Items
path_items [] = no_items
path_items (part ∷ parts) = item (string_value part) (path_items parts)

abbrev pub pair : Datum → Datum → Datum
pair a b = array_value (item a (item b no_items))

-- a test that holds no others, by a number
abbrev pub numbered : ℕ → Datum → Datum
numbered n d = pair (timestamp_value n) d

abbrev mutual
  pub query_fields : Query → Fields
  query_fields no_clauses = no_fields
  query_fields (clause first others) = field [] (clause_value first) (query_fields others)

  pub clause_value : Clause → Datum
  clause_value (path_clause path tests) = pair (array_value (path_items path)) (document_value (tests_fields tests))
  clause_value (connective_clause and_connective queries) = pair null_value (array_value (queries_items queries))
  clause_value (connective_clause or_connective queries) = pair min_key_value (array_value (queries_items queries))
  clause_value (connective_clause nor_connective queries) = pair max_key_value (array_value (queries_items queries))

  pub queries_items : Queries → Items
  queries_items no_queries = no_items
  queries_items (query first others) = item (document_value (query_fields first)) (queries_items others)

  pub tests_fields : Tests → Fields
  tests_fields no_tests = no_fields
  tests_fields (test first others) = field [] (test_value first) (tests_fields others)

  pub test_value : Test → Datum
  test_value (eq_test x) = numbered 0 x
  test_value (ne_test x) = numbered 1 x
  test_value (gt_test x) = numbered 2 x
  test_value (gte_test x) = numbered 3 x
  test_value (lt_test x) = numbered 4 x
  test_value (lte_test x) = numbered 5 x
  test_value (in_test xs) = numbered 6 (array_value xs)
  test_value (nin_test xs) = numbered 7 (array_value xs)
  test_value (all_test xs) = numbered 8 (array_value xs)
  test_value (size_test n) = numbered 9 (int64_value n)
  test_value (exists_test b) = numbered 10 (boolean_value b)
  test_value (element_query_test inner) = pair null_value (document_value (query_fields inner))
  test_value (element_tests_test tests) = pair min_key_value (document_value (tests_fields tests))
  test_value (not_test tests) = pair max_key_value (document_value (tests_fields tests))

abbrev pub path_from : Items → Path
path_from no_items = []
path_from (item (string_value part) ds) = part ∷ path_from ds
path_from (item d ds) = []

abbrev pub items_from : Datum → Items
items_from (array_value ds) = ds
items_from d = no_items

abbrev pub number_from : Datum → ℤ
number_from (int64_value z) = z
number_from d = pos 0

abbrev pub boolean_from : Datum → Bool
boolean_from (boolean_value b) = b
boolean_from d = false

abbrev pub numbered_from : ℕ → Datum → Test
numbered_from n d =
    if n == 0 then eq_test d
    else if n == 1 then ne_test d
    else if n == 2 then gt_test d
    else if n == 3 then gte_test d
    else if n == 4 then lt_test d
    else if n == 5 then lte_test d
    else if n == 6 then in_test (items_from d)
    else if n == 7 then nin_test (items_from d)
    else if n == 8 then all_test (items_from d)
    else if n == 9 then size_test (number_from d)
    else exists_test (boolean_from d)

abbrev mutual
  pub query_from : Fields → Query
  query_from no_fields = no_clauses
  query_from (field name d ms) = clause (clause_from d) (query_from ms)

  pub clause_from : Datum → Clause
  clause_from (array_value (item (array_value path) (item (document_value ms) no_items))) = path_clause (path_from path) (tests_from ms)
  clause_from (array_value (item null_value (item (array_value ds) no_items))) = connective_clause and_connective (queries_from ds)
  clause_from (array_value (item min_key_value (item (array_value ds) no_items))) = connective_clause or_connective (queries_from ds)
  clause_from (array_value (item max_key_value (item (array_value ds) no_items))) = connective_clause nor_connective (queries_from ds)
  clause_from d = connective_clause and_connective no_queries

  pub queries_from : Items → Queries
  queries_from no_items = no_queries
  queries_from (item (document_value ms) ds) = query (query_from ms) (queries_from ds)
  queries_from (item d ds) = no_queries

  pub tests_from : Fields → Tests
  tests_from no_fields = no_tests
  tests_from (field name d ms) = test (test_from d) (tests_from ms)

  pub test_from : Datum → Test
  test_from (array_value (item (timestamp_value n) (item d no_items))) = numbered_from n d
  test_from (array_value (item null_value (item (document_value ms) no_items))) = element_query_test (query_from ms)
  test_from (array_value (item min_key_value (item (document_value ms) no_items))) = element_tests_test (tests_from ms)
  test_from (array_value (item max_key_value (item (document_value ms) no_items))) = not_test (tests_from ms)
  test_from d = exists_test false

abbrev pub path_back : (path : Path) → path_from (path_items path) ≡ path
path_back [] = refl
path_back (part ∷ parts) = rw (path_back parts) refl

abbrev mutual
  pub query_back : (q : Query) → query_from (query_fields q) ≡ q
  query_back no_clauses = refl
  query_back (clause first others) = rw (clause_back first, query_back others) refl

  pub clause_back : (c : Clause) → clause_from (clause_value c) ≡ c
  clause_back (path_clause path tests) = rw (path_back path, tests_back tests) refl
  clause_back (connective_clause and_connective queries) = rw (queries_back queries) refl
  clause_back (connective_clause or_connective queries) = rw (queries_back queries) refl
  clause_back (connective_clause nor_connective queries) = rw (queries_back queries) refl

  pub queries_back : (qs : Queries) → queries_from (queries_items qs) ≡ qs
  queries_back no_queries = refl
  queries_back (query first others) = rw (query_back first, queries_back others) refl

  pub tests_back : (ts : Tests) → tests_from (tests_fields ts) ≡ ts
  tests_back no_tests = refl
  tests_back (test first others) = rw (test_back first, tests_back others) refl

  pub test_back : (t : Test) → test_from (test_value t) ≡ t
  test_back (eq_test x) = refl
  test_back (ne_test x) = refl
  test_back (gt_test x) = refl
  test_back (gte_test x) = refl
  test_back (lt_test x) = refl
  test_back (lte_test x) = refl
  test_back (in_test xs) = refl
  test_back (nin_test xs) = refl
  test_back (all_test xs) = refl
  test_back (size_test n) = refl
  test_back (exists_test b) = refl
  test_back (element_query_test inner) = rw (query_back inner) refl
  test_back (element_tests_test tests) = rw (tests_back tests) refl
  test_back (not_test tests) = rw (tests_back tests) refl

abbrev pub query_code : Coded Query
query_code = code_by Fields fields_code (λ q. query_fields q) (λ ms. query_from ms) (λ q. query_back q)

abbrev pub tests_code : Coded Tests
tests_code = code_by Fields fields_code (λ ts. tests_fields ts) (λ ms. tests_from ms) (λ ts. tests_back ts)

abbrev pub queries_code : Coded Queries
queries_code = code_by Items items_code (λ qs. queries_items qs) (λ ds. queries_from ds) (λ qs. queries_back qs)
