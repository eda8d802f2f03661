-- Which documents are queries (MongoDB manual, "Query Documents" and each operator's page), or the first fault: fields from the
-- left, and of each first its name, then its operand by itself, then how deep the query or the operator document is in it, then
-- what it has. Own: all names of a document whose first name begins with $ are operators; the depth is limited; a test of what
-- exists takes a boolean alone.
use Rattle.std.specs.Prelude.{ℕ, zero, suc, List, [], ◌∷◌, Bool, false, Option, Some, None, Result, Ok, Err, ok_or, option_map, if◌then◌else◌}
use Rattle.std.specs.Result.{result_map_both}
use Rattle.bson_model.specs.Tree.{Datum, document_value, array_value, boolean_value, int32_value, int64_value, item, Fields, no_fields, field}
use Rattle.query_model.specs.Paths.{begins_with_dollar, read_path, elements}
use Rattle.query_model.specs.Queries.{Query, no_clauses, clause, Clause, path_clause, connective_clause, Queries, no_queries, query, Tests, no_tests, test, Test, eq_test, ne_test, gt_test, gte_test, lt_test, lte_test, in_test, nin_test, all_test, size_test, exists_test, element_query_test, element_tests_test, not_test, QueryFault, unknown_operator, bad_operand, path_fault, too_deep, Operator, eq_operator, ne_operator, gt_operator, gte_operator, lt_operator, lte_operator, in_operator, nin_operator, all_operator, size_operator, exists_operator, elem_match_operator, not_operator, operators, connectives, named}

infixl 10 ◌>>=◌
abbrev pub ◌>>=◌ : {A B : Type 0} → Result A QueryFault → (A → Result B QueryFault) → Result B QueryFault
(Ok x) >>= f = f x
(Err e) >>= f = Err e

-- the first name begins with $
abbrev pub is_operator_document : Fields → Bool
is_operator_document no_fields = false
is_operator_document (field name d ms) = begins_with_dollar name

abbrev pub all_documents : List Datum → Option (List Fields)
all_documents [] = Some []
all_documents (document_value ms ∷ ds) = option_map (λ documents. ms ∷ documents) (all_documents ds)
all_documents (d ∷ ds) = None

-- an array of documents with at least one
abbrev pub some_documents : Datum → Option (List Fields)
some_documents (array_value (item d ds)) = all_documents (elements (item d ds))
some_documents d = None

-- how the queries and the operator documents inside are read
module _ (read_inner : Fields → Result Query QueryFault) (read_inner_tests : Fields → Result Tests QueryFault) where
  abbrev pub read_element_match : Fields → Result Test QueryFault
  read_element_match ms =
      if is_operator_document ms then (read_inner_tests ms >>= λ tests. Ok (element_tests_test tests))
      else (read_inner ms >>= λ inner. Ok (element_query_test inner))

  abbrev pub read_not : Fields → Result Test QueryFault
  read_not ms = if is_operator_document ms then (read_inner_tests ms >>= λ tests. Ok (not_test tests)) else Err bad_operand

  abbrev pub read_test : Operator → Datum → Result Test QueryFault
  read_test eq_operator d = Ok (eq_test d)
  read_test ne_operator d = Ok (ne_test d)
  read_test gt_operator d = Ok (gt_test d)
  read_test gte_operator d = Ok (gte_test d)
  read_test lt_operator d = Ok (lt_test d)
  read_test lte_operator d = Ok (lte_test d)
  read_test in_operator (array_value ds) = Ok (in_test ds)
  read_test nin_operator (array_value ds) = Ok (nin_test ds)
  read_test all_operator (array_value ds) = Ok (all_test ds)
  read_test size_operator (int32_value n) = Ok (size_test n)
  read_test size_operator (int64_value n) = Ok (size_test n)
  read_test exists_operator (boolean_value b) = Ok (exists_test b)
  read_test elem_match_operator (document_value ms) = read_element_match ms
  read_test not_operator (document_value ms) = read_not ms
  read_test operator d = Err bad_operand

  -- the tests of an operator document
  abbrev pub read_tests : Fields → Result Tests QueryFault
  read_tests no_fields = Ok no_tests
  read_tests (field name d ms) = do
    operator ← ok_or (named operators name) unknown_operator
    first ← read_test operator d
    others ← read_tests ms
    Ok (test first others)

  -- the tests of a path: those of an operator document, or equality with any other value
  abbrev pub read_asked : Datum → Result Tests QueryFault
  read_asked (document_value ms) = if is_operator_document ms then read_tests ms else Ok (test (eq_test (document_value ms)) no_tests)
  read_asked d = Ok (test (eq_test d) no_tests)

  abbrev pub read_queries : List Fields → Result Queries QueryFault
  read_queries [] = Ok no_queries
  read_queries (ms ∷ documents) = do
    first ← read_inner ms
    others ← read_queries documents
    Ok (query first others)

  abbrev pub read_connective : List ℕ → Datum → Result Clause QueryFault
  read_connective name d = do
    connective ← ok_or (named connectives name) unknown_operator
    documents ← ok_or (some_documents d) bad_operand
    queries ← read_queries documents
    Ok (connective_clause connective queries)

  abbrev pub read_path_clause : List ℕ → Datum → Result Clause QueryFault
  read_path_clause name d = do
    path ← result_map_both (λ path. path) path_fault (read_path name)
    tests ← read_asked d
    Ok (path_clause path tests)

  abbrev pub read_clauses : Fields → Result Query QueryFault
  read_clauses no_fields = Ok no_clauses
  read_clauses (field name d ms) = do
    first ← if begins_with_dollar name then read_connective name d else read_path_clause name d
    others ← read_clauses ms
    Ok (clause first others)

-- A query, and an operator document inside another, with so many levels left for it and what is in it.
abbrev mutual
  pub read_within : ℕ → Fields → Result Query QueryFault
  read_within zero ms = Err too_deep
  read_within (suc n) ms = read_clauses (read_within n) (read_tests_within n) ms

  pub read_tests_within : ℕ → Fields → Result Tests QueryFault
  read_tests_within zero ms = Err too_deep
  read_tests_within (suc n) ms = read_tests (read_within n) (read_tests_within n) ms

-- the outermost query is level 1
abbrev pub most_levels : ℕ
most_levels = 100

-- the query that a document is
abbrev pub read_query : Fields → Result Query QueryFault
read_query document = read_within most_levels document
