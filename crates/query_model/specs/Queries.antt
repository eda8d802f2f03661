-- Queries as data, and the names of their operators (MongoDB manual, "Query and Projection Operators").
use Rattle.std.specs.Prelude.{ℕ, ℤ, List, [], ◌∷◌, Bool, Option, Some, None, codes, if◌then◌else◌}
use Rattle.std.specs.Str.{bytes_eq}
use Rattle.bson_model.specs.Tree.{Datum, Items}
use Rattle.query_model.specs.Paths.{Path, PathFault}

pub data Connective : Type 0 where
  and_connective : Connective
  or_connective : Connective
  nor_connective : Connective

mutual
  -- clauses, which all have to hold
  pub data Query : Type 0 where
    no_clauses : Query
    clause : Clause → Query → Query

  pub data Clause : Type 0 where
    -- tests of the values at a path
    path_clause : Path → Tests → Clause
    connective_clause : Connective → Queries → Clause

  pub data Queries : Type 0 where
    no_queries : Queries
    query : Query → Queries → Queries

  -- tests, which all have to hold
  pub data Tests : Type 0 where
    no_tests : Tests
    test : Test → Tests → Tests

  -- an operator with its operand
  pub data Test : Type 0 where
    eq_test : Datum → Test
    ne_test : Datum → Test
    gt_test : Datum → Test
    gte_test : Datum → Test
    lt_test : Datum → Test
    lte_test : Datum → Test
    in_test : Items → Test
    nin_test : Items → Test
    all_test : Items → Test
    size_test : ℤ → Test
    exists_test : Bool → Test
    -- $elemMatch of a query, and of an operator document
    element_query_test : Query → Test
    element_tests_test : Tests → Test
    not_test : Tests → Test

-- why a document is no query
pub data QueryFault : Type 0 where
  unknown_operator : QueryFault
  bad_operand : QueryFault
  path_fault : PathFault → QueryFault
  too_deep : QueryFault

-- the operators of an operator document
pub data Operator : Type 0 where
  eq_operator : Operator
  ne_operator : Operator
  gt_operator : Operator
  gte_operator : Operator
  lt_operator : Operator
  lte_operator : Operator
  in_operator : Operator
  nin_operator : Operator
  all_operator : Operator
  size_operator : Operator
  exists_operator : Operator
  elem_match_operator : Operator
  not_operator : Operator

abbrev pub operators : List (List ℕ × Operator)
operators =
    (codes "$eq", eq_operator)
    ∷ (codes "$ne", ne_operator)
    ∷ (codes "$gt", gt_operator)
    ∷ (codes "$gte", gte_operator)
    ∷ (codes "$lt", lt_operator)
    ∷ (codes "$lte", lte_operator)
    ∷ (codes "$in", in_operator)
    ∷ (codes "$nin", nin_operator)
    ∷ (codes "$all", all_operator)
    ∷ (codes "$size", size_operator)
    ∷ (codes "$exists", exists_operator)
    ∷ (codes "$elemMatch", elem_match_operator)
    ∷ (codes "$not", not_operator)
    ∷ []

abbrev pub connectives : List (List ℕ × Connective)
connectives = (codes "$and", and_connective) ∷ (codes "$or", or_connective) ∷ (codes "$nor", nor_connective) ∷ []

-- what a table has under a name
abbrev pub named : {A : Type 0} → List (List ℕ × A) → List ℕ → Option A
named [] name = None
named (row ∷ rows) name = if bytes_eq row.0 name then Some row.1 else named rows name
