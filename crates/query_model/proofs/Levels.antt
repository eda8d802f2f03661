-- A document that is kept is not too deep to be a query: each level of a query is a document or an array inside another.
use Rattle.std.proofs.Common.{◌≢◌, ℕ, zero, suc, ◌≤◌, List, [], ◌∷◌, arith}
use Rattle.std.specs.Prelude.{Bool, true, false, Option, Some, None, Result, Ok, Err, ok_or, option_map, if◌then◌else◌}
use Rattle.std.specs.Result.{result_map_both}
use Rattle.std.specs.List.{AllByRecursion}
use Rattle.bson_model.specs.Tree.{Datum, document_value, array_value, boolean_value, int32_value, int64_value, Items, no_items, item, Fields, no_fields, field, value_depth, array_depth, document_depth}
use Rattle.query_model.specs.Paths.{Path, PathFault, begins_with_dollar, elements, read_path}
use Rattle.query_model.specs.Queries.{Query, connective_clause, Connective, Tests, QueryFault, unknown_operator, bad_operand, path_fault, too_deep, Operator, eq_operator, ne_operator, gt_operator, gte_operator, lt_operator, lte_operator, in_operator, nin_operator, all_operator, size_operator, exists_operator, elem_match_operator, not_operator, operators, connectives, named}
use Rattle.query_model.specs.Reading.{◌>>=◌, is_operator_document, all_documents, some_documents, read_element_match, read_not, read_test, read_tests, read_asked, read_queries, read_connective, read_path_clause, read_clauses, read_within, read_tests_within}

abbrev IsShallow : {A : Type 0} → Result A QueryFault → Type 0
IsShallow (Ok x) = Unit {0}
IsShallow (Err e) = e ≢ too_deep

pub shallow_says : {A : Type 0} (r : Result A QueryFault) → IsShallow r → r ≢ Err too_deep
shallow_says (Ok x) h = λ e. cc
shallow_says (Err f) h = λ e. h cc

then_shallow : {A B : Type 0} (r : Result A QueryFault) (f : A → Result B QueryFault) → IsShallow r → ((x : A) → IsShallow (f x)) → IsShallow (r >>= f)
then_shallow (Ok x) f h k = k x
then_shallow (Err e) f h k = h

if_shallow : {A : Type 0} (b : Bool) (r s : Result A QueryFault) → IsShallow r → IsShallow s → IsShallow (if b then r else s)
if_shallow true r s h k = h
if_shallow false r s h k = k

or_shallow : {A : Type 0} (o : Option A) (e : QueryFault) → e ≢ too_deep → IsShallow (ok_or o e)
or_shallow None e h = h
or_shallow (Some x) e h = tt

path_shallow : (r : Result Path PathFault) → IsShallow (result_map_both (λ path. path) path_fault r)
path_shallow (Ok path) = tt
path_shallow (Err e) = λ s. cc

pub some_depth : (ms : Fields) → 1 ≤ document_depth ms
some_depth no_fields = omega arith
some_depth (field name d ms) = omega (arith, some_depth ms)

module _ (n : ℕ) (read_inner : Fields → Result Query QueryFault) (read_inner_tests : Fields → Result Tests QueryFault)
    (inner : (ms : Fields) → document_depth ms ≤ n → IsShallow (read_inner ms))
    (inner_tests : (ms : Fields) → document_depth ms ≤ n → IsShallow (read_inner_tests ms)) where
  shallow_element : (ms : Fields) → document_depth ms ≤ n → IsShallow (read_element_match read_inner read_inner_tests ms)
  shallow_element ms h =
      if_shallow (is_operator_document ms) _ _
      (then_shallow (read_inner_tests ms) _ (inner_tests ms h) (λ tests. tt))
      (then_shallow (read_inner ms) _ (inner ms h) (λ asked. tt))

  shallow_not : (ms : Fields) → document_depth ms ≤ n → IsShallow (read_not read_inner read_inner_tests ms)
  shallow_not ms h = if_shallow (is_operator_document ms) _ _ (then_shallow (read_inner_tests ms) _ (inner_tests ms h) (λ tests. tt)) (λ s. cc)

  shallow_test : (operator : Operator) (d : Datum) → value_depth d ≤ n → IsShallow (read_test read_inner read_inner_tests operator d)
  shallow_test eq_operator d h = tt
  shallow_test ne_operator d h = tt
  shallow_test gt_operator d h = tt
  shallow_test gte_operator d h = tt
  shallow_test lt_operator d h = tt
  shallow_test lte_operator d h = tt
  shallow_test in_operator (array_value ds) h = tt
  shallow_test nin_operator (array_value ds) h = tt
  shallow_test all_operator (array_value ds) h = tt
  shallow_test size_operator (int32_value k) h = tt
  shallow_test size_operator (int64_value k) h = tt
  shallow_test exists_operator (boolean_value b) h = tt
  shallow_test elem_match_operator (document_value ms) h = shallow_element ms h
  shallow_test not_operator (document_value ms) h = shallow_not ms h
  shallow_test operator d h = λ s. cc

  shallow_tests : (ms : Fields) → document_depth ms ≤ suc n → IsShallow (read_tests read_inner read_inner_tests ms)
  shallow_tests no_fields h = tt
  shallow_tests (field name d ms) h =
      then_shallow (ok_or (named operators name) unknown_operator) _ (or_shallow (named operators name) unknown_operator (λ s. cc))
      (λ operator. then_shallow (read_test read_inner read_inner_tests operator d) _ (shallow_test operator d (omega arith))
      (λ first. then_shallow (read_tests read_inner read_inner_tests ms) _ (shallow_tests ms (omega arith)) (λ others. tt)))

  shallow_asked : (d : Datum) → value_depth d ≤ n → IsShallow (read_asked read_inner read_inner_tests d)
  shallow_asked (document_value ms) h = if_shallow (is_operator_document ms) _ _ (shallow_tests ms (omega arith)) tt
  shallow_asked d h = tt

  abbrev AreShallow : List Fields → Type 0
  AreShallow documents = AllByRecursion (λ ms. document_depth ms ≤ n) documents

  abbrev SomeAreShallow : Option (List Fields) → Type 0
  SomeAreShallow None = Unit {0}
  SomeAreShallow (Some documents) = AreShallow documents

  shallow_queries : (documents : List Fields) → AreShallow documents → IsShallow (read_queries read_inner read_inner_tests documents)
  shallow_queries [] h = tt
  shallow_queries (ms ∷ documents) h =
      then_shallow (read_inner ms) _ (inner ms h.0)
      (λ first. then_shallow (read_queries read_inner read_inner_tests documents) _ (shallow_queries documents h.1) (λ others. tt))

  one_more : (o : Option (List Fields)) (ms : Fields) → document_depth ms ≤ n → SomeAreShallow o → SomeAreShallow (option_map (λ documents. ms ∷ documents) o)
  one_more None ms h k = tt
  one_more (Some documents) ms h k = (h, k)

  shallow_elements : (ds : Items) → array_depth ds ≤ n → SomeAreShallow (all_documents (elements ds))
  shallow_elements no_items h = tt
  shallow_elements (item (document_value ms) ds) h = one_more (all_documents (elements ds)) ms (omega arith) (shallow_elements ds (omega arith))
  shallow_elements (item d ds) h = tt

  shallow_operand : (d : Datum) → value_depth d ≤ n → SomeAreShallow (some_documents d)
  shallow_operand (array_value no_items) h = tt
  shallow_operand (array_value (item d ds)) h = shallow_elements (item d ds) h
  shallow_operand d h = tt

  shallow_documents : (which : Connective) (o : Option (List Fields)) → SomeAreShallow o →
      IsShallow (ok_or o bad_operand >>= λ documents. read_queries read_inner read_inner_tests documents >>= λ queries. Ok (connective_clause which queries))
  shallow_documents which None h = λ s. cc
  shallow_documents which (Some documents) h = then_shallow (read_queries read_inner read_inner_tests documents) _ (shallow_queries documents h) (λ queries. tt)

  shallow_connective : (name : List ℕ) (d : Datum) → value_depth d ≤ n → IsShallow (read_connective read_inner read_inner_tests name d)
  shallow_connective name d h =
      then_shallow (ok_or (named connectives name) unknown_operator) _ (or_shallow (named connectives name) unknown_operator (λ s. cc))
      (λ which. shallow_documents which (some_documents d) (shallow_operand d h))

  shallow_path_clause : (name : List ℕ) (d : Datum) → value_depth d ≤ n → IsShallow (read_path_clause read_inner read_inner_tests name d)
  shallow_path_clause name d h =
      then_shallow (result_map_both (λ path. path) path_fault (read_path name)) _ (path_shallow (read_path name))
      (λ path. then_shallow (read_asked read_inner read_inner_tests d) _ (shallow_asked d h) (λ tests. tt))

  shallow_clauses : (ms : Fields) → document_depth ms ≤ suc n → IsShallow (read_clauses read_inner read_inner_tests ms)
  shallow_clauses no_fields h = tt
  shallow_clauses (field name d ms) h =
      then_shallow (if begins_with_dollar name then read_connective read_inner read_inner_tests name d else read_path_clause read_inner read_inner_tests name d) _
      (if_shallow (begins_with_dollar name) _ _ (shallow_connective name d (omega arith)) (shallow_path_clause name d (omega arith)))
      (λ first. then_shallow (read_clauses read_inner read_inner_tests ms) _ (shallow_clauses ms (omega arith)) (λ others. tt))

mutual
  pub shallow_within : (n : ℕ) (ms : Fields) → document_depth ms ≤ n → IsShallow (read_within n ms)
  shallow_within zero ms h = absurd (omega (arith, some_depth ms))
  shallow_within (suc n) ms h = shallow_clauses n (read_within n) (read_tests_within n) (shallow_within n) (shallow_tests_within n) ms h

  shallow_tests_within : (n : ℕ) (ms : Fields) → document_depth ms ≤ n → IsShallow (read_tests_within n ms)
  shallow_tests_within zero ms h = absurd (omega (arith, some_depth ms))
  shallow_tests_within (suc n) ms h = shallow_tests n (read_within n) (read_tests_within n) (shallow_within n) (shallow_tests_within n) ms h
