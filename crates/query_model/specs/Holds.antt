-- Which documents a query holds of (MongoDB manual, "Query and Projection Operators": each operator's page; "Comparison/Sort
-- Order"; "Query for Null or Missing Fields"). In corner cases of null, absent fields, gaps and arrays this is own: tests look at
-- the values at a path, at the candidates, which are the values and the elements of those that are arrays, and at the gap.
use Rattle.std.specs.Prelude.{ℤ, pos, List, [], ◌∷◌, length, Bool, true, false, not, ◌&&◌, ◌||◌, nat_lt, ◌==◌, if◌then◌else◌, filter_map, flat_map}
use Rattle.std.specs.declared.cmp.Ordering.{Ordering}
use Rattle.std.specs.Ordering.{is_lt, is_le, is_gt, is_ge, int_eq}
use Rattle.std.specs.List.{list_any, list_all}
use Rattle.bson_model.specs.Tree.{Datum, array_value, null_value, min_key_value, max_key_value, Fields}
use Rattle.value_model.specs.Order.{class_of, order, same_value}
use Rattle.query_model.specs.Paths.{Path, values_at, candidates_at, has_gap, elements, elements_of, as_document}
use Rattle.query_model.specs.Queries.{Query, no_clauses, clause, Clause, path_clause, connective_clause, and_connective, or_connective, nor_connective, Queries, no_queries, query, Tests, no_tests, test, Test, eq_test, ne_test, gt_test, gte_test, lt_test, lte_test, in_test, nin_test, all_test, size_test, exists_test, element_query_test, element_tests_test, not_test}

-- what tests look at
pub record Found : Type 0 where
  pub values : List Datum
  pub candidates : List Datum
  pub gap : Bool

abbrev pub found_at : Path → Fields → Found
found_at path document = record { values = values_at path document; candidates = candidates_at path document; gap = has_gap path document }

-- an element of an array, by itself
abbrev pub alone : Datum → Found
alone d = record { values = d ∷ []; candidates = d ∷ []; gap = false }

abbrev pub is_null : Datum → Bool
is_null null_value = true
is_null d = false

-- MinKey and MaxKey compare with values of every class
abbrev pub is_end : Datum → Bool
is_end min_key_value = true
is_end max_key_value = true
is_end d = false

abbrev pub null_in_gap : Datum → Found → Bool
null_in_gap x found = is_null x && found.gap

abbrev pub is_equal : Datum → Found → Bool
is_equal x found = list_any (same_value x) found.candidates || null_in_gap x found

-- some candidate of the operand's class compares so
abbrev pub compares : (Ordering → Bool) → Datum → Found → Bool
compares passes x found = list_any (λ d. (is_end x || class_of d == class_of x) && passes (order d x)) found.candidates

abbrev pub has_size : ℤ → Datum → Bool
has_size n (array_value ds) = int_eq (pos (length (elements ds))) n
has_size n d = false

-- the elements of the values that are arrays
abbrev pub found_elements : Found → List Datum
found_elements found = flat_map elements_of found.values

abbrev pub is_there : Found → Bool
is_there found = nat_lt 0 (length found.values)

abbrev mutual
  -- the query holds of the document
  pub holds : Query → Fields → Bool
  holds no_clauses document = true
  holds (clause first others) document = clause_holds first document && holds others document

  pub clause_holds : Clause → Fields → Bool
  clause_holds (path_clause path tests) document = tests_hold tests (found_at path document)
  clause_holds (connective_clause and_connective queries) document = all_hold queries document
  clause_holds (connective_clause or_connective queries) document = some_holds queries document
  clause_holds (connective_clause nor_connective queries) document = not (some_holds queries document)

  pub all_hold : Queries → Fields → Bool
  all_hold no_queries document = true
  all_hold (query first others) document = holds first document && all_hold others document

  pub some_holds : Queries → Fields → Bool
  some_holds no_queries document = false
  some_holds (query first others) document = holds first document || some_holds others document

  pub tests_hold : Tests → Found → Bool
  tests_hold no_tests found = true
  tests_hold (test first others) found = test_holds first found && tests_hold others found

  pub test_holds : Test → Found → Bool
  test_holds (eq_test x) found = is_equal x found
  test_holds (ne_test x) found = not (is_equal x found)
  test_holds (gt_test x) found = compares is_gt x found
  test_holds (gte_test x) found = compares is_ge x found || null_in_gap x found
  test_holds (lt_test x) found = compares is_lt x found
  test_holds (lte_test x) found = compares is_le x found || null_in_gap x found
  test_holds (in_test xs) found = list_any (λ x. is_equal x found) (elements xs)
  test_holds (nin_test xs) found = not (list_any (λ x. is_equal x found) (elements xs))
  test_holds (all_test xs) found = nat_lt 0 (length (elements xs)) && list_all (λ x. is_equal x found) (elements xs)
  test_holds (size_test n) found = list_any (has_size n) found.values
  test_holds (exists_test b) found = if b then is_there found else not (is_there found)
  test_holds (element_query_test inner) found = list_any (holds inner) (filter_map as_document (found_elements found))
  test_holds (element_tests_test tests) found = list_any (λ d. tests_hold tests (alone d)) (found_elements found)
  test_holds (not_test tests) found = not (tests_hold tests found)
