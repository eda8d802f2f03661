-- Reading clauses, tests and queries one after the other, as a loop does.
use Rattle.std.proofs.Common.{◌≡◌, ℕ, suc, ◌<◌, ◌≤◌, ◌+◌, List, [], ◌∷◌, ◌++◌, length, get_or, drop, Result, Ok, Err, refl, sym, ap, ◌∙◌, add-one, drop-cons}
use Rattle.std.specs.Prelude.{Bool, false, if◌then◌else◌, filter_map, ok_or, Option, Some, None}
use Rattle.std.specs.Result.{result_map_both}
use Rattle.bson_values.specs.declared.value.Field.{Field}
use Rattle.bson_values.specs.declared.value.Value.{Value}
use Rattle.bson_values.specs.View.{datum_of, fields_of, items_of}
use Rattle.bson_values.specs.Tree.{Datum, document_value, Fields, field}
use Rattle.query_model.specs.Paths.{Path, as_document, begins_with_dollar, elements, read_path}
use Rattle.query_model.specs.Queries as queries
use Rattle.query_model.specs.Queries.{Query, clause, query, test, no_clauses, no_queries, no_tests, QueryFault, named, operators, unknown_operator, bad_operand, path_fault, path_clause, connective_clause, connectives}
use Rattle.query_model.specs.Reading.{◌>>=◌, read_clauses, read_connective, read_path_clause, read_queries, read_tests, read_test, read_asked, some_documents}
use Rattle.match_expr.specs.declared.tree.Clause.{Clause}
use Rattle.match_expr.specs.declared.tree.Test.{Test}
use Rattle.match_expr.specs.FieldTests.{read_clause_at, read_field_test}
use Rattle.match_expr.specs.View.{clause_of, test_of, query_before, queries_before, tests_before}
use Rattle.field_paths.proofs.FieldLists.{next_field}
use Rattle.match_expr.proofs.Views.{pushed_clause, pushed_query, pushed_test}

pub next_value : (vs : List Value) (i : ℕ) (v : Value) → i < length vs → v ≡ get_or vs i v → drop i vs ≡ v ∷ drop (i + 1) vs
next_value vs i v less is = rw add-one (drop-cons vs i v less ∙ ap (λ (x : Value). x ∷ drop (suc i) vs) (sym is))

-- what was read before, and what is still read
abbrev pub clauses_with : List Clause → Result Query QueryFault → Result Query QueryFault
clauses_with prefix read = read >>= λ others. Ok (query_before prefix others)

clause_behind : (cs : List Clause) (c : Clause) (read : Result Query QueryFault) →
    clauses_with cs (read >>= λ others. Ok (clause (clause_of c) others)) ≡ clauses_with (cs ++ c ∷ []) read
clause_behind cs c (Ok others) = ap (λ (q : Query). Ok q) (sym (pushed_clause cs c others))
clause_behind cs c (Err e) = refl

clause_read : (cs : List Clause) (read : Result queries.Clause QueryFault) (others : Result Query QueryFault) (c : Clause) → read ≡ Ok (clause_of c) →
    clauses_with cs (read >>= λ first. others >>= λ more. Ok (clause first more)) ≡ clauses_with (cs ++ c ∷ []) others
clause_read cs read others c h = rw h (clause_behind cs c others)

abbrev pub tests_with : List Test → Result queries.Tests QueryFault → Result queries.Tests QueryFault
tests_with prefix read = read >>= λ others. Ok (tests_before prefix others)

test_behind : (ts : List Test) (t : Test) (read : Result queries.Tests QueryFault) →
    tests_with ts (read >>= λ others. Ok (test (test_of t) others)) ≡ tests_with (ts ++ t ∷ []) read
test_behind ts t (Ok others) = ap (λ (q : queries.Tests). Ok q) (sym (pushed_test ts t others))
test_behind ts t (Err e) = refl

-- the operator and its operand, read as one
grouped : (operator : Result queries.Operator QueryFault) (read : queries.Operator → Result queries.Test QueryFault)
    (on : queries.Test → Result queries.Tests QueryFault) →
    (operator >>= λ o. read o >>= on) ≡ ((operator >>= read) >>= on)
grouped (Ok o) read on = refl
grouped (Err e) read on = refl

test_read : (ts : List Test) (read : Result queries.Test QueryFault) (others : Result queries.Tests QueryFault) (t : Test) → read ≡ Ok (test_of t) →
    tests_with ts (read >>= λ first. others >>= λ more. Ok (test first more)) ≡ tests_with (ts ++ t ∷ []) others
test_read ts read others t h = rw h (test_behind ts t others)

test_fails : (ts : List Test) (read : Result queries.Test QueryFault) (others : Result queries.Tests QueryFault) (f : QueryFault) → read ≡ Err f →
    tests_with ts (read >>= λ first. others >>= λ more. Ok (test first more)) ≡ Err f
test_fails ts read others f h = rw h refl

abbrev pub documents : List Value → List Fields
documents vs = filter_map as_document (elements (items_of vs))

abbrev pub queries_with : List Query → Result queries.Queries QueryFault → Result queries.Queries QueryFault
queries_with prefix read = read >>= λ others. Ok (queries_before prefix others)

query_behind : (qs : List Query) (q : Query) (read : Result queries.Queries QueryFault) →
    queries_with qs (read >>= λ others. Ok (query q others)) ≡ queries_with (qs ++ q ∷ []) read
query_behind qs q (Ok others) = ap (λ (x : queries.Queries). Ok x) (sym (pushed_query qs q others))
query_behind qs q (Err e) = refl

query_read : (qs : List Query) (read : Result Query QueryFault) (others : Result queries.Queries QueryFault) (q : Query) → read ≡ Ok q →
    queries_with qs (read >>= λ first. others >>= λ more. Ok (query first more)) ≡ queries_with (qs ++ q ∷ []) others
query_read qs read others q h = rw h (query_behind qs q others)

next_document : (vs : List Value) (i : ℕ) (v : Value) (ms : Fields) → i < length vs → v ≡ get_or vs i v → datum_of v ≡ document_value ms →
    documents (drop i vs) ≡ ms ∷ documents (drop (i + 1) vs)
next_document vs i v ms less is d =
    ap (λ (x : List Value). documents x) (next_value vs i v less is)
    ∙ ap (λ (x : Datum). filter_map as_document (x ∷ elements (items_of (drop (i + 1) vs)))) d

by_path : (b : Bool) (x y z : Result queries.Clause QueryFault) → b ≡ false → y ≡ z → (if b then x else y) ≡ z
by_path b x y z h k = rw h k

clause_at : (m : Result Path QueryFault) (a : Result queries.Tests QueryFault) (path : Path) → m ≡ Ok path →
    (m >>= λ p. a >>= λ t. Ok (path_clause p t)) ≡ (a >>= λ t. Ok (path_clause path t))
clause_at m a path h = rw h refl

connective_from : (o : Option queries.Connective) (p : Option (List Fields)) (read : List Fields → Result queries.Queries QueryFault)
    (c : queries.Connective) (ds : List Fields) (qs : queries.Queries) → Some c ≡ o → Some ds ≡ p → read ds ≡ Ok qs →
    (ok_or o unknown_operator >>= λ connective. ok_or p bad_operand >>= λ found. read found >>= λ inner. Ok (connective_clause connective inner))
    ≡ Ok (connective_clause c qs)
connective_from o p read c ds qs h k r = rw (sym h, sym k, r) refl

module _ (inner : Fields → Result Query QueryFault) (inner_tests : Fields → Result queries.Tests QueryFault) where
  -- ---- clauses

  abbrev pub first_clause : List ℕ → Datum → Result queries.Clause QueryFault
  first_clause name d = if begins_with_dollar name then read_connective inner inner_tests name d else read_path_clause inner inner_tests name d

  pub path_clause_read : (name : List ℕ) (d : Datum) (path : Path) → false ≡ begins_with_dollar name →
      result_map_both (λ p. p) path_fault (read_path name) ≡ Ok path → first_clause name d ≡ read_clause_at inner inner_tests path d
  path_clause_read name d path plain h =
      by_path (begins_with_dollar name) (read_connective inner inner_tests name d) (read_path_clause inner inner_tests name d)
      (read_clause_at inner inner_tests path d) (sym plain)
      (clause_at (result_map_both (λ p. p) path_fault (read_path name)) (read_asked inner inner_tests d) path h)

  pub connective_read : (name : List ℕ) (d : Datum) (c : queries.Connective) (ds : List Fields) (qs : queries.Queries) →
      Some c ≡ named connectives name → Some ds ≡ some_documents d → read_queries inner inner_tests ds ≡ Ok qs →
      read_connective inner inner_tests name d ≡ Ok (connective_clause c qs)
  connective_read name d c ds qs h k r =
      connective_from (named connectives name) (some_documents d) (λ found. read_queries inner inner_tests found) c ds qs h k r

  pub clauses_go_on : (cs now : List Clause) (c : Clause) (ms : List Field) (i : ℕ) (m : Field) (name : List ℕ) (whole : Result Query QueryFault) →
      i < length ms → m ≡ get_or ms i m → now ≡ cs ++ c ∷ [] → name ≡ m.name → first_clause name (datum_of m.value) ≡ Ok (clause_of c) →
      clauses_with cs (read_clauses inner inner_tests (fields_of (drop i ms))) ≡ whole →
      clauses_with now (read_clauses inner inner_tests (fields_of (drop (i + 1) ms))) ≡ whole
  clauses_go_on cs now c ms i m name whole less is put named_so h so_far =
      let first : first_clause m.name (datum_of m.value) ≡ Ok (clause_of c) = ap (λ (n : List ℕ). first_clause n (datum_of m.value)) (sym named_so) ∙ h in
      ap (λ (x : List Clause). clauses_with x (read_clauses inner inner_tests (fields_of (drop (i + 1) ms)))) put
      ∙ sym (clause_read cs (first_clause m.name (datum_of m.value)) (read_clauses inner inner_tests (fields_of (drop (i + 1) ms))) c first)
      ∙ ap (λ (x : List Field). clauses_with cs (read_clauses inner inner_tests (fields_of x))) (sym (next_field ms i m less is))
      ∙ so_far

  -- ---- tests

  field_grouped : (name : List ℕ) (d : Datum) (ms : Fields) → read_tests inner inner_tests (field name d ms)
      ≡ (read_field_test inner inner_tests name d >>= λ first. read_tests inner inner_tests ms >>= λ others. Ok (test first others))
  field_grouped name d ms =
      grouped (ok_or (named operators name) unknown_operator) (λ operator. read_test inner inner_tests operator d)
      (λ first. read_tests inner inner_tests ms >>= λ others. Ok (test first others))

  pub tests_go_on : (ts now : List Test) (t : Test) (ms : List Field) (i : ℕ) (m : Field) (whole : Result queries.Tests QueryFault) →
      i < length ms → m ≡ get_or ms i m → now ≡ ts ++ t ∷ [] → read_field_test inner inner_tests m.name (datum_of m.value) ≡ Ok (test_of t) →
      tests_with ts (read_tests inner inner_tests (fields_of (drop i ms))) ≡ whole →
      tests_with now (read_tests inner inner_tests (fields_of (drop (i + 1) ms))) ≡ whole
  tests_go_on ts now t ms i m whole less is put h so_far =
      ap (λ (x : List Test). tests_with x (read_tests inner inner_tests (fields_of (drop (i + 1) ms)))) put
      ∙ sym (test_read ts (read_field_test inner inner_tests m.name (datum_of m.value)) (read_tests inner inner_tests (fields_of (drop (i + 1) ms))) t h)
      ∙ ap (λ (x : Result queries.Tests QueryFault). tests_with ts x) (sym (field_grouped m.name (datum_of m.value) (fields_of (drop (i + 1) ms))))
      ∙ ap (λ (x : List Field). tests_with ts (read_tests inner inner_tests (fields_of x))) (sym (next_field ms i m less is))
      ∙ so_far

  pub tests_fail : (ts : List Test) (ms : List Field) (i : ℕ) (m : Field) (whole : Result queries.Tests QueryFault) (f : QueryFault) →
      i < length ms → m ≡ get_or ms i m → tests_with ts (read_tests inner inner_tests (fields_of (drop i ms))) ≡ whole →
      read_field_test inner inner_tests m.name (datum_of m.value) ≡ Err f → whole ≡ Err f
  tests_fail ts ms i m whole f less is so_far h =
      sym so_far ∙ ap (λ (x : List Field). tests_with ts (read_tests inner inner_tests (fields_of x))) (next_field ms i m less is)
      ∙ ap (λ (x : Result queries.Tests QueryFault). tests_with ts x) (field_grouped m.name (datum_of m.value) (fields_of (drop (i + 1) ms)))
      ∙ test_fails ts (read_field_test inner inner_tests m.name (datum_of m.value)) (read_tests inner inner_tests (fields_of (drop (i + 1) ms))) f h

  -- ---- queries

  pub queries_go_on : (qs now : List Query) (q : Query) (vs : List Value) (i : ℕ) (v : Value) (ms : Fields) (whole : Result queries.Queries QueryFault) →
      i < length vs → v ≡ get_or vs i v → datum_of v ≡ document_value ms → now ≡ qs ++ q ∷ [] → inner ms ≡ Ok q →
      queries_with qs (read_queries inner inner_tests (documents (drop i vs))) ≡ whole →
      queries_with now (read_queries inner inner_tests (documents (drop (i + 1) vs))) ≡ whole
  queries_go_on qs now q vs i v ms whole less is d put h so_far =
      ap (λ (x : List Query). queries_with x (read_queries inner inner_tests (documents (drop (i + 1) vs)))) put
      ∙ sym (query_read qs (inner ms) (read_queries inner inner_tests (documents (drop (i + 1) vs))) q h)
      ∙ ap (λ (x : List Fields). queries_with qs (read_queries inner inner_tests x)) (sym (next_document vs i v ms less is d))
      ∙ so_far
