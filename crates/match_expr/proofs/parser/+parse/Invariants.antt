-- The levels that are left fall. What was read before, and what is left, is what the whole gives.
use Rattle.std.proofs.Common.{◌≡◌, ◌+◌, ◌*◌, drop}
use Rattle.bson_values.specs.View.{fields_of}
use Rattle.query_model.specs.Paths.{as_document, elements}
use Rattle.query_model.specs.Reading.{read_clauses, read_queries, read_tests, read_within, read_tests_within}
use Rattle.match_expr.proofs.ReadLoops.{clauses_with, documents, queries_with, tests_with}
use Rattle.std.specs.Prelude.{filter_map}
use Rattle.match_expr.proofs.parser.+parse.Given as goal

abbrev pub decreases-parse_within : goal.decreases-parse_within
decreases-parse_within l = 10 * l.levels

abbrev pub decreases-parse_tests_within : goal.decreases-parse_tests_within
decreases-parse_tests_within l = 10 * l.levels

abbrev pub decreases-parse_nested : goal.decreases-parse_nested
decreases-parse_nested l = 10 * l.levels + 1

abbrev pub decreases-parse_test : goal.decreases-parse_test
decreases-parse_test l = 10 * l.levels + 2

abbrev pub decreases-parse_tests : goal.decreases-parse_tests
decreases-parse_tests l = 10 * l.levels + 3

abbrev pub decreases-parse_asked : goal.decreases-parse_asked
decreases-parse_asked l = 10 * l.levels + 4

abbrev pub decreases-parse_queries : goal.decreases-parse_queries
decreases-parse_queries l = 10 * l.levels + 1

abbrev pub decreases-parse_connective : goal.decreases-parse_connective
decreases-parse_connective l = 10 * l.levels + 2

abbrev pub decreases-parse_clause : goal.decreases-parse_clause
decreases-parse_clause l = 10 * l.levels + 5

abbrev pub decreases-parse_clauses : goal.decreases-parse_clauses
decreases-parse_clauses l = 10 * l.levels + 6

abbrev pub invariant-parse_clauses-loop-field : goal.invariant-parse_clauses-loop-field
invariant-parse_clauses-loop-field l =
    clauses_with l.clauses.items
    (read_clauses (read_within l.levels) (read_tests_within l.levels) (fields_of (drop l.field-index l.field-items)))
    ≡ read_clauses (read_within l.levels) (read_tests_within l.levels) l.document

abbrev pub invariant-parse_tests-loop-field : goal.invariant-parse_tests-loop-field
invariant-parse_tests-loop-field l =
    tests_with l.tests.items
    (read_tests (read_within l.levels) (read_tests_within l.levels) (fields_of (drop l.field-index l.field-items)))
    ≡ read_tests (read_within l.levels) (read_tests_within l.levels) l.document

abbrev pub invariant-parse_queries-loop-value : goal.invariant-parse_queries-loop-value
invariant-parse_queries-loop-value l =
    queries_with l.queries.items
    (read_queries (read_within l.levels) (read_tests_within l.levels) (documents (drop l.value-index l.value-items)))
    ≡ read_queries (read_within l.levels) (read_tests_within l.levels) (filter_map as_document (elements l.documents))
