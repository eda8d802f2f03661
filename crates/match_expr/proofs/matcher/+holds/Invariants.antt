-- The query falls, and within a path the parts that are left. What is left of a list answers as the whole does.
use Rattle.std.proofs.Common.{◌≡◌, ◌∷◌, ◌+◌, ◌*◌, length, drop}
use Rattle.std.specs.List.{list_any}
use Rattle.bson_values.specs.View.{items_of}
use Rattle.bson_values.specs.Tree.{array_value}
use Rattle.query_model.specs.Holds.{holds, tests_hold}
use Rattle.query_model.specs.Paths.{elements, values_from}
use Rattle.query_model.specs.Queries.{no_clauses, no_queries, no_tests}
use Rattle.match_expr.specs.Elements.{element_passes, some_answer, value_passes}
use Rattle.match_expr.specs.Looks.{found_of, parts_ahead}
use Rattle.match_expr.specs.Sizes.{query_size, clause_size, queries_size, tests_size, test_size}
use Rattle.match_expr.specs.View.{clause_of, queries_before, query_before, test_of, tests_before}
use Rattle.match_expr.proofs.matcher.+holds.Given as goal

abbrev pub decreases-query_holds : goal.decreases-query_holds
decreases-query_holds l = 8 * query_size l.query.now + 7

abbrev pub decreases-clause_holds : goal.decreases-clause_holds
decreases-clause_holds l = 8 * clause_size (clause_of l.clause.now) + 6

abbrev pub decreases-some_answer : goal.decreases-some_answer
decreases-some_answer l = 8 * queries_size l.queries.now + 5

abbrev pub decreases-tests_hold : goal.decreases-tests_hold
decreases-tests_hold l = 8 * (tests_size l.tests.now + parts_ahead l.place.now) + 6

abbrev pub decreases-test_holds : goal.decreases-test_holds
decreases-test_holds l = 8 * (test_size (test_of l.test.now) + parts_ahead l.place.now) + 5

abbrev pub decreases-any_element : goal.decreases-any_element
decreases-any_element l = 8 * (test_size (test_of l.test.now) + parts_ahead l.place.now) + 4

abbrev pub decreases-any_in_array : goal.decreases-any_in_array
decreases-any_in_array l = 8 * (test_size (test_of l.test.now) + length l.others.now) + 6

abbrev pub decreases-any_in_document : goal.decreases-any_in_document
decreases-any_in_document l = 8 * (test_size (test_of l.test.now) + length l.others.now) + 5

abbrev pub decreases-any_from : goal.decreases-any_from
decreases-any_from l = 8 * (test_size (test_of l.test.now) + length l.parts.now) + 4

abbrev pub decreases-has_element : goal.decreases-has_element
decreases-has_element l = 8 * test_size (test_of l.test.now) + 3

abbrev pub decreases-any_passes : goal.decreases-any_passes
decreases-any_passes l = 8 * test_size (test_of l.test.now) + 2

abbrev pub decreases-element_passes : goal.decreases-element_passes
decreases-element_passes l = 8 * test_size (test_of l.test.now) + 1

abbrev pub invariant-query_holds-loop-clause : goal.invariant-query_holds-loop-clause
invariant-query_holds-loop-clause l = holds (query_before (drop l.clause-index l.clause-items) no_clauses) l.document ≡ holds l.query l.document

abbrev pub invariant-some_answer-loop-query : goal.invariant-some_answer-loop-query
invariant-some_answer-loop-query l =
    some_answer l.answer (queries_before (drop l.query-index l.query-items) no_queries) l.document ≡ some_answer l.answer l.queries l.document

abbrev pub invariant-tests_hold-loop-test : goal.invariant-tests_hold-loop-test
invariant-tests_hold-loop-test l =
    tests_hold (tests_before (drop l.test-index l.test-items) no_tests) (found_of l.place) ≡ tests_hold l.tests (found_of l.place)

abbrev pub invariant-any_in_array-loop-value : goal.invariant-any_in_array-loop-value
invariant-any_in_array-loop-value l =
    list_any (value_passes (test_of l.test)) (values_from (l.part ∷ l.others) (array_value (items_of (drop l.value-index l.value-items))))
    ≡ list_any (value_passes (test_of l.test)) (values_from (l.part ∷ l.others) (array_value l.array))

abbrev pub invariant-any_passes-loop-value : goal.invariant-any_passes-loop-value
invariant-any_passes-loop-value l =
    list_any (element_passes (test_of l.test)) (elements (items_of (drop l.value-index l.value-items)))
    ≡ list_any (element_passes (test_of l.test)) (elements l.array)
