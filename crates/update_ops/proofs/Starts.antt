-- What holds of a filter's document is what holds of the query that it is.
use Rattle.std.proofs.Common.{◌≡◌, ℕ, zero, suc, ◌<◌, List, [], ◌∷◌, length, refl, sym, ap, ◌∙◌, arith}
use Rattle.std.specs.Prelude.{Bool, true, false, ◌&&◌, ◌||◌, not, Option, Some, None, Result, Ok, Err, ok_or, ◌==◌, if◌then◌else◌}
use Rattle.std.specs.List.{join_with_byte}
use Rattle.std.specs.Result.{result_map_both}
use Rattle.bson_model.specs.Tree.{Datum, document_value, array_value, boolean_value, int32_value, int64_value, Fields, no_fields, field}
use Rattle.query_model.specs.Paths.{Path, PathFault, begins_with_dollar, into_first, parts_of, read_path}
use Rattle.query_model.specs.Queries.{Query, no_clauses, clause, Clause, path_clause, connective_clause, Tests, no_tests, test, Test, eq_test, element_query_test, element_tests_test, not_test, QueryFault, unknown_operator, bad_operand, path_fault, Operator, eq_operator, ne_operator, gt_operator, gte_operator, lt_operator, lte_operator, in_operator, nin_operator, all_operator, size_operator, exists_operator, elem_match_operator, not_operator, operators, connectives, named}
use Rattle.query_model.specs.Reading.{◌>>=◌, is_operator_document, some_documents, read_test, read_tests, read_asked, read_queries, read_connective, read_path_clause, read_clauses, read_within, read_tests_within}
use Rattle.query_model.specs.Writes.{is_plain_path, is_plain_query, is_plain_clause, are_plain_tests, is_plain_test, with_equalities, start_of}
use Rattle.query_model.proofs.Names.{read_is, some_part, joined_parts}
use Rattle.update_ops.specs.Starts.{has_dot, is_plain_name, is_plain_filter, is_plain_asked, are_plain_operators, is_plain_operand, is_equality, operands_before, equalities_before, equalities_in}

then_ok : {A B : Type 0} (r : Result A QueryFault) (f : A → Result B QueryFault) (b : B) → (r >>= f) ≡ Ok b → (a : A) × (r ≡ Ok a) × (f a ≡ Ok b)
then_ok (Ok a) f b e = (a, refl, e)
then_ok (Err fault) f b e = absurd cc

ok_is : {A : Type 0} (x y : A) (e : ◌≡◌ {A = Result A QueryFault} (Ok x) (Ok y)) → x ≡ y
ok_is x y e = cc

some_is : {A : Type 0} (o : Option A) (fault : QueryFault) (x : A) → ok_or o fault ≡ Ok x → o ≡ Some x
some_is None fault x e = absurd cc
some_is (Some y) fault x e = let same : y ≡ x = cc in ap (λ z. Some z) same

-- ---- names and paths

plain_into : (b : ℕ) (p : Path) → 0 < length p → is_plain_path (into_first b p) ≡ is_plain_path p
plain_into b [] some = absurd (omega arith)
plain_into b (part ∷ []) some = refl
plain_into b (part ∷ next ∷ parts) some = refl

dotted : (p : Path) → 0 < length p → is_plain_path ([] ∷ p) ≡ false
dotted [] some = absurd (omega arith)
dotted (part ∷ parts) some = refl

plain_next : (is_dot : Bool) (b : ℕ) (p : Path) (rest : Bool) → 0 < length p → is_plain_path p ≡ not rest →
    is_plain_path (if is_dot then [] ∷ p else into_first b p) ≡ not (is_dot || rest)
plain_next true b p rest some same = dotted p some
plain_next false b p rest some same = plain_into b p some ∙ same

plain_parts : (name : List ℕ) → is_plain_path (parts_of name) ≡ not (has_dot name)
plain_parts [] = refl
plain_parts (b ∷ name) = plain_next (b == 46) b (parts_of name) (has_dot name) (some_part name) (plain_parts name)

path_read : (read : Result Path PathFault) (path : Path) → result_map_both (λ (p : Path). p) path_fault read ≡ Ok path → read ≡ Ok path
path_read (Ok p) path e = let same : p ≡ path = cc in ap (λ (x : Path). Ok x) same
path_read (Err fault) path e = absurd cc

parts_read : (name : List ℕ) (path : Path) → result_map_both (λ (p : Path). p) path_fault (read_path name) ≡ Ok path → parts_of name ≡ path
parts_read name path e = read_is name path (path_read (read_path name) path e)

plain_name : (name : List ℕ) (path : Path) → result_map_both (λ (p : Path). p) path_fault (read_path name) ≡ Ok path → is_plain_path path ≡ not (has_dot name)
plain_name name path e = ap is_plain_path (sym (parts_read name path e)) ∙ plain_parts name

module _ (inner : Fields → Result Query QueryFault) (inner_tests : Fields → Result Tests QueryFault) where
  -- ---- which filters are plain

  module _ (plain_inner : (ms : Fields) (q : Query) → inner ms ≡ Ok q → is_plain_query q ≡ is_plain_filter ms)
      (plain_inner_tests : (ms : Fields) (ts : Tests) → inner_tests ms ≡ Ok ts → are_plain_tests ts ≡ are_plain_operators ms) where
    plain_element : (ms : Fields) (operators_alone : Bool) (t : Test) →
        (if operators_alone then (inner_tests ms >>= λ tests. Ok (element_tests_test tests)) else (inner ms >>= λ q. Ok (element_query_test q))) ≡ Ok t →
        is_plain_test t ≡ (if operators_alone then are_plain_operators ms else is_plain_filter ms)
    plain_element ms true t e =
        let step = then_ok (inner_tests ms) (λ tests. Ok (element_tests_test tests)) t e in
        ap is_plain_test (sym (ok_is (element_tests_test step.0) t step.2)) ∙ plain_inner_tests ms step.0 step.1
    plain_element ms false t e =
        let step = then_ok (inner ms) (λ q. Ok (element_query_test q)) t e in
        ap is_plain_test (sym (ok_is (element_query_test step.0) t step.2)) ∙ plain_inner ms step.0 step.1

    plain_not : (ms : Fields) (operators_alone : Bool) (t : Test) →
        (if operators_alone then (inner_tests ms >>= λ tests. Ok (not_test tests)) else Err bad_operand) ≡ Ok t → is_plain_test t ≡ are_plain_operators ms
    plain_not ms true t e =
        let step = then_ok (inner_tests ms) (λ tests. Ok (not_test tests)) t e in
        ap is_plain_test (sym (ok_is (not_test step.0) t step.2)) ∙ plain_inner_tests ms step.0 step.1
    plain_not ms false t e = absurd cc

    plain_by : (t u : Test) (e : ◌≡◌ {A = Result Test QueryFault} (Ok t) (Ok u)) → is_plain_test t ≡ true → is_plain_test u ≡ true
    plain_by t u e plain = ap is_plain_test (sym (ok_is t u e)) ∙ plain

    plain_operand : (operator : Operator) (d : Datum) (t : Test) → read_test inner inner_tests operator d ≡ Ok t → is_plain_test t ≡ is_plain_operand (Some operator) d
    plain_operand eq_operator d t e = plain_by _ t e refl
    plain_operand ne_operator d t e = plain_by _ t e refl
    plain_operand gt_operator d t e = plain_by _ t e refl
    plain_operand gte_operator d t e = plain_by _ t e refl
    plain_operand lt_operator d t e = plain_by _ t e refl
    plain_operand lte_operator d t e = plain_by _ t e refl
    plain_operand in_operator (array_value ds) t e = plain_by _ t e refl
    plain_operand nin_operator (array_value ds) t e = plain_by _ t e refl
    plain_operand all_operator (array_value ds) t e = plain_by _ t e refl
    plain_operand size_operator (int32_value n) t e = plain_by _ t e refl
    plain_operand size_operator (int64_value n) t e = plain_by _ t e refl
    plain_operand exists_operator (boolean_value b) t e = plain_by _ t e refl
    plain_operand elem_match_operator (document_value ms) t e = plain_element ms (is_operator_document ms) t e
    plain_operand not_operator (document_value ms) t e = plain_not ms (is_operator_document ms) t e
    plain_operand operator d t e = absurd cc

    plain_operators : (ms : Fields) (ts : Tests) → read_tests inner inner_tests ms ≡ Ok ts → are_plain_tests ts ≡ are_plain_operators ms
    plain_operators no_fields ts e = ap are_plain_tests (sym (ok_is no_tests ts e))
    plain_operators (field name d ms) ts e =
        let operator = then_ok (ok_or (named operators name) unknown_operator)
        (λ o. read_test inner inner_tests o d >>= λ first. read_tests inner inner_tests ms >>= λ others. Ok (test first others)) ts e in
        let first = then_ok (read_test inner inner_tests operator.0 d) (λ t. read_tests inner inner_tests ms >>= λ others. Ok (test t others)) ts operator.2 in
        let others = then_ok (read_tests inner inner_tests ms) (λ more. Ok (test first.0 more)) ts first.2 in
        ap are_plain_tests (sym (ok_is (test first.0 others.0) ts others.2))
        ∙ ap (λ (b : Bool). b && are_plain_tests others.0) (plain_operand operator.0 d first.0 first.1 ∙ ap (λ (o : Option Operator). is_plain_operand o d) (sym (some_is (named operators name) unknown_operator operator.0 operator.1)))
        ∙ ap (λ (b : Bool). is_plain_operand (named operators name) d && b) (plain_operators ms others.0 others.1)

    plain_document : (ms : Fields) (operators_alone : Bool) (ts : Tests) →
        (if operators_alone then read_tests inner inner_tests ms else Ok (test (eq_test (document_value ms)) no_tests)) ≡ Ok ts →
        are_plain_tests ts ≡ (if operators_alone then are_plain_operators ms else true)
    plain_document ms true ts e = plain_operators ms ts e
    plain_document ms false ts e = ap are_plain_tests (sym (ok_is (test (eq_test (document_value ms)) no_tests) ts e))

    plain_asked : (d : Datum) (ts : Tests) → read_asked inner inner_tests d ≡ Ok ts → are_plain_tests ts ≡ is_plain_asked d
    plain_asked (document_value ms) ts e = plain_document ms (is_operator_document ms) ts e
    plain_asked d ts e = ap are_plain_tests (sym (ok_is (test (eq_test d) no_tests) ts e))

    no_connective : (name : List ℕ) (d : Datum) (c : Clause) → read_connective inner inner_tests name d ≡ Ok c → is_plain_clause c ≡ false
    no_connective name d c e =
        let connective = then_ok (ok_or (named connectives name) unknown_operator)
        (λ k. ok_or (some_documents d) bad_operand >>= λ documents. read_queries inner inner_tests documents >>= λ queries. Ok (connective_clause k queries)) c e in
        let documents = then_ok (ok_or (some_documents d) bad_operand) (λ ds. read_queries inner inner_tests ds >>= λ queries. Ok (connective_clause connective.0 queries)) c connective.2 in
        let queries = then_ok (read_queries inner inner_tests documents.0) (λ qs. Ok (connective_clause connective.0 qs)) c documents.2 in
        ap is_plain_clause (sym (ok_is (connective_clause connective.0 queries.0) c queries.2))

    plain_path : (name : List ℕ) (d : Datum) (c : Clause) → read_path_clause inner inner_tests name d ≡ Ok c → is_plain_clause c ≡ (not (has_dot name) && is_plain_asked d)
    plain_path name d c e =
        let path = then_ok (result_map_both (λ (p : Path). p) path_fault (read_path name)) (λ p. read_asked inner inner_tests d >>= λ tests. Ok (path_clause p tests)) c e in
        let tests = then_ok (read_asked inner inner_tests d) (λ ts. Ok (path_clause path.0 ts)) c path.2 in
        ap is_plain_clause (sym (ok_is (path_clause path.0 tests.0) c tests.2))
        ∙ ap (λ (b : Bool). b && are_plain_tests tests.0) (plain_name name path.0 path.1)
        ∙ ap (λ (b : Bool). not (has_dot name) && b) (plain_asked d tests.0 tests.1)

    plain_clause : (dollar : Bool) (name : List ℕ) (d : Datum) (c : Clause) →
        (if dollar then read_connective inner inner_tests name d else read_path_clause inner inner_tests name d) ≡ Ok c →
        is_plain_clause c ≡ ((not dollar && not (has_dot name)) && is_plain_asked d)
    plain_clause true name d c e = no_connective name d c e
    plain_clause false name d c e = plain_path name d c e

    plain_clauses : (ms : Fields) (q : Query) → read_clauses inner inner_tests ms ≡ Ok q → is_plain_query q ≡ is_plain_filter ms
    plain_clauses no_fields q e = ap is_plain_query (sym (ok_is no_clauses q e))
    plain_clauses (field name d ms) q e =
        let read = if begins_with_dollar name then read_connective inner inner_tests name d else read_path_clause inner inner_tests name d in
        let first = then_ok read (λ c. read_clauses inner inner_tests ms >>= λ others. Ok (clause c others)) q e in
        let others = then_ok (read_clauses inner inner_tests ms) (λ more. Ok (clause first.0 more)) q first.2 in
        ap is_plain_query (sym (ok_is (clause first.0 others.0) q others.2))
        ∙ ap (λ (b : Bool). b && is_plain_query others.0) (plain_clause (begins_with_dollar name) name d first.0 first.1)
        ∙ ap (λ (b : Bool). (is_plain_name name && is_plain_asked d) && b) (plain_clauses ms others.0 others.1)

  -- the document that begins from a plain filter

  equality_alone : (operator : Operator) (d : Datum) (t : Test) (name : List ℕ) (others : Tests) (rest : Fields) → read_test inner inner_tests operator d ≡ Ok t →
      with_equalities name (test t others) rest ≡ (if is_equality (Some operator) then field name d (with_equalities name others rest) else with_equalities name others rest)
  equality_alone eq_operator d t name others rest e = ap (λ (x : Test). with_equalities name (test x others) rest) (sym (ok_is (eq_test d) t e))
  equality_alone ne_operator d t name others rest e = ap (λ (x : Test). with_equalities name (test x others) rest) (sym (ok_is _ t e))
  equality_alone gt_operator d t name others rest e = ap (λ (x : Test). with_equalities name (test x others) rest) (sym (ok_is _ t e))
  equality_alone gte_operator d t name others rest e = ap (λ (x : Test). with_equalities name (test x others) rest) (sym (ok_is _ t e))
  equality_alone lt_operator d t name others rest e = ap (λ (x : Test). with_equalities name (test x others) rest) (sym (ok_is _ t e))
  equality_alone lte_operator d t name others rest e = ap (λ (x : Test). with_equalities name (test x others) rest) (sym (ok_is _ t e))
  equality_alone in_operator (array_value ds) t name others rest e = ap (λ (x : Test). with_equalities name (test x others) rest) (sym (ok_is _ t e))
  equality_alone nin_operator (array_value ds) t name others rest e = ap (λ (x : Test). with_equalities name (test x others) rest) (sym (ok_is _ t e))
  equality_alone all_operator (array_value ds) t name others rest e = ap (λ (x : Test). with_equalities name (test x others) rest) (sym (ok_is _ t e))
  equality_alone size_operator (int32_value n) t name others rest e = ap (λ (x : Test). with_equalities name (test x others) rest) (sym (ok_is _ t e))
  equality_alone size_operator (int64_value n) t name others rest e = ap (λ (x : Test). with_equalities name (test x others) rest) (sym (ok_is _ t e))
  equality_alone exists_operator (boolean_value b) t name others rest e = ap (λ (x : Test). with_equalities name (test x others) rest) (sym (ok_is _ t e))
  equality_alone elem_match_operator (document_value ms) t name others rest e = element_alone ms (is_operator_document ms) e
    where
      element_alone : (ms : Fields) (operators_alone : Bool) →
          (if operators_alone then (inner_tests ms >>= λ tests. Ok (element_tests_test tests)) else (inner ms >>= λ q. Ok (element_query_test q))) ≡ Ok t →
          with_equalities name (test t others) rest ≡ with_equalities name others rest
      element_alone ms true e =
          let step = then_ok (inner_tests ms) (λ tests. Ok (element_tests_test tests)) t e in
          ap (λ (x : Test). with_equalities name (test x others) rest) (sym (ok_is (element_tests_test step.0) t step.2))
      element_alone ms false e =
          let step = then_ok (inner ms) (λ q. Ok (element_query_test q)) t e in
          ap (λ (x : Test). with_equalities name (test x others) rest) (sym (ok_is (element_query_test step.0) t step.2))
  equality_alone not_operator (document_value ms) t name others rest e = not_alone ms (is_operator_document ms) e
    where
      not_alone : (ms : Fields) (operators_alone : Bool) →
          (if operators_alone then (inner_tests ms >>= λ tests. Ok (not_test tests)) else Err bad_operand) ≡ Ok t →
          with_equalities name (test t others) rest ≡ with_equalities name others rest
      not_alone ms true e =
          let step = then_ok (inner_tests ms) (λ tests. Ok (not_test tests)) t e in
          ap (λ (x : Test). with_equalities name (test x others) rest) (sym (ok_is (not_test step.0) t step.2))
      not_alone ms false e = absurd cc
  equality_alone operator d t name others rest e = absurd cc

  operands_alone : (name : List ℕ) (ms : Fields) (ts : Tests) (rest : Fields) → read_tests inner inner_tests ms ≡ Ok ts →
      with_equalities name ts rest ≡ operands_before name ms rest
  operands_alone name no_fields ts rest e = ap (λ (x : Tests). with_equalities name x rest) (sym (ok_is no_tests ts e))
  operands_alone name (field operator_name d ms) ts rest e =
      let operator = then_ok (ok_or (named operators operator_name) unknown_operator)
      (λ o. read_test inner inner_tests o d >>= λ first. read_tests inner inner_tests ms >>= λ others. Ok (test first others)) ts e in
      let first = then_ok (read_test inner inner_tests operator.0 d) (λ t. read_tests inner inner_tests ms >>= λ others. Ok (test t others)) ts operator.2 in
      let others = then_ok (read_tests inner inner_tests ms) (λ more. Ok (test first.0 more)) ts first.2 in
      ap (λ (x : Tests). with_equalities name x rest) (sym (ok_is (test first.0 others.0) ts others.2))
      ∙ equality_alone operator.0 d first.0 name others.0 rest first.1
      ∙ ap (λ (o : Option Operator). if is_equality o then field name d (with_equalities name others.0 rest) else with_equalities name others.0 rest)
      (sym (some_is (named operators operator_name) unknown_operator operator.0 operator.1))
      ∙ ap (λ (x : Fields). if is_equality (named operators operator_name) then field name d x else x) (operands_alone name ms others.0 rest others.1)

  equalities_of_document : (name : List ℕ) (ms : Fields) (operators_alone : Bool) (ts : Tests) (rest : Fields) →
      (if operators_alone then read_tests inner inner_tests ms else Ok (test (eq_test (document_value ms)) no_tests)) ≡ Ok ts →
      with_equalities name ts rest ≡ (if operators_alone then operands_before name ms rest else field name (document_value ms) rest)
  equalities_of_document name ms true ts rest e = operands_alone name ms ts rest e
  equalities_of_document name ms false ts rest e =
      ap (λ (x : Tests). with_equalities name x rest) (sym (ok_is (test (eq_test (document_value ms)) no_tests) ts e))

  equalities_asked : (name : List ℕ) (d : Datum) (ts : Tests) (rest : Fields) → read_asked inner inner_tests d ≡ Ok ts →
      with_equalities name ts rest ≡ equalities_before name d rest
  equalities_asked name (document_value ms) ts rest e = equalities_of_document name ms (is_operator_document ms) ts rest e
  equalities_asked name d ts rest e = ap (λ (x : Tests). with_equalities name x rest) (sym (ok_is (test (eq_test d) no_tests) ts e))

  both_hold : (a b : Bool) → (a && b) ≡ true → (a ≡ true) × (b ≡ true)
  both_hold true b h = (refl, h)
  both_hold false b h = absurd cc

  -- the document of a clause of one name begins with its equalities
  clause_begins : (name : List ℕ) (d : Datum) (path : Path) (ts : Tests) (others : Query) → parts_of name ≡ path → is_plain_path path ≡ true →
      read_asked inner inner_tests d ≡ Ok ts → start_of (clause (path_clause path ts) others) ≡ equalities_before name d (start_of others)
  clause_begins name d [] ts others is plain e = absurd cc
  clause_begins name d (part ∷ []) ts others is plain e =
      let same : part ≡ name = sym (ap (λ (p : Path). join_with_byte 46 p) is) ∙ joined_parts name in
      ap (λ (n : List ℕ). with_equalities n ts (start_of others)) same ∙ equalities_asked name d ts (start_of others) e
  clause_begins name d (part ∷ next ∷ parts) ts others is plain e = absurd cc

  path_begins : (name : List ℕ) (d : Datum) (c : Clause) (others : Query) → read_path_clause inner inner_tests name d ≡ Ok c → is_plain_clause c ≡ true →
      start_of (clause c others) ≡ equalities_before name d (start_of others)
  path_begins name d c others e plain =
      let path = then_ok (result_map_both (λ (p : Path). p) path_fault (read_path name)) (λ p. read_asked inner inner_tests d >>= λ tests. Ok (path_clause p tests)) c e in
      let tests = then_ok (read_asked inner inner_tests d) (λ ts. Ok (path_clause path.0 ts)) c path.2 in
      let is : path_clause path.0 tests.0 ≡ c = ok_is (path_clause path.0 tests.0) c tests.2 in
      let both = both_hold (is_plain_path path.0) (are_plain_tests tests.0) (ap is_plain_clause is ∙ plain) in
      ap (λ (x : Clause). start_of (clause x others)) (sym is) ∙ clause_begins name d path.0 tests.0 others (parts_read name path.0 path.1) both.0 tests.1

  never_plain : (name : List ℕ) (d : Datum) (c : Clause) → read_connective inner inner_tests name d ≡ Ok c → is_plain_clause c ≡ true → ⊥
  never_plain name d c e plain =
      let connective = then_ok (ok_or (named connectives name) unknown_operator)
      (λ k. ok_or (some_documents d) bad_operand >>= λ documents. read_queries inner inner_tests documents >>= λ queries. Ok (connective_clause k queries)) c e in
      let documents = then_ok (ok_or (some_documents d) bad_operand) (λ ds. read_queries inner inner_tests ds >>= λ queries. Ok (connective_clause connective.0 queries)) c connective.2 in
      let queries = then_ok (read_queries inner inner_tests documents.0) (λ qs. Ok (connective_clause connective.0 qs)) c documents.2 in
      let is : false ≡ true = ap is_plain_clause (ok_is (connective_clause connective.0 queries.0) c queries.2) ∙ plain in absurd cc

  field_begins : (dollar : Bool) (name : List ℕ) (d : Datum) (c : Clause) (others : Query) →
      (if dollar then read_connective inner inner_tests name d else read_path_clause inner inner_tests name d) ≡ Ok c → is_plain_clause c ≡ true →
      start_of (clause c others) ≡ equalities_before name d (start_of others)
  field_begins true name d c others e plain = absurd (never_plain name d c e plain)
  field_begins false name d c others e plain = path_begins name d c others e plain

  begins : (ms : Fields) (q : Query) → read_clauses inner inner_tests ms ≡ Ok q → is_plain_query q ≡ true → start_of q ≡ equalities_in ms
  begins no_fields q e plain = ap start_of (sym (ok_is no_clauses q e))
  begins (field name d ms) q e plain =
      let read = if begins_with_dollar name then read_connective inner inner_tests name d else read_path_clause inner inner_tests name d in
      let first = then_ok read (λ c. read_clauses inner inner_tests ms >>= λ others. Ok (clause c others)) q e in
      let others = then_ok (read_clauses inner inner_tests ms) (λ more. Ok (clause first.0 more)) q first.2 in
      let is : clause first.0 others.0 ≡ q = ok_is (clause first.0 others.0) q others.2 in
      let both = both_hold (is_plain_clause first.0) (is_plain_query others.0) (ap is_plain_query is ∙ plain) in
      ap start_of (sym is)
      ∙ field_begins (begins_with_dollar name) name d first.0 others.0 first.1 both.0
      ∙ ap (λ (x : Fields). equalities_before name d x) (begins ms others.0 others.1 both.1)

mutual
  plain_within : (n : ℕ) (ms : Fields) (q : Query) → read_within n ms ≡ Ok q → is_plain_query q ≡ is_plain_filter ms
  plain_within zero ms q e = absurd cc
  plain_within (suc n) ms q e = plain_clauses (read_within n) (read_tests_within n) (plain_within n) (plain_tests_within n) ms q e

  plain_tests_within : (n : ℕ) (ms : Fields) (ts : Tests) → read_tests_within n ms ≡ Ok ts → are_plain_tests ts ≡ are_plain_operators ms
  plain_tests_within zero ms ts e = absurd cc
  plain_tests_within (suc n) ms ts e = plain_operators (read_within n) (read_tests_within n) (plain_within n) (plain_tests_within n) ms ts e

pub plain_query : (ms : Fields) (q : Query) → read_within 100 ms ≡ Ok q → is_plain_query q ≡ is_plain_filter ms
plain_query ms q e = plain_within 100 ms q e

pub begins_with_equalities : (ms : Fields) (q : Query) → read_within 100 ms ≡ Ok q → is_plain_query q ≡ true → start_of q ≡ equalities_in ms
begins_with_equalities ms q e plain = begins (read_within 99) (read_tests_within 99) ms q e plain
