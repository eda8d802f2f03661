-- A document that reads as a query targets the key that the query targets.
use Rattle.std.proofs.Common.{◌≡◌, ℕ, List, [], ◌∷◌, refl, sym, ap, subst, ◌∙◌}
use Rattle.std.specs.Prelude.{Bool, true, false, Option, Some, None, Result, Ok, Err, ok_or, if◌then◌else◌, codes}
use Rattle.std.specs.List.{AllByRecursion, join_with_byte}
use Rattle.std.specs.Option.{option_or}
use Rattle.std.specs.Result.{result_map_both}
use Rattle.std.specs.Str.{bytes_eq}
use Rattle.std.proofs.lemmas.Slice.Eq.{bytes_eq-Decides}
use Rattle.bson_model.specs.Tree.{Datum, document_value, array_value, boolean_value, int32_value, int64_value, Fields, no_fields, field, get}
use Rattle.query_model.specs.DocumentKeys.{value_asked, key_asked_in}
use Rattle.query_model.specs.KeySpans.{is_id, equality_in, key_asked}
use Rattle.query_model.specs.Paths.{Path, PathFault, begins_with_dollar, read_path}
use Rattle.query_model.specs.Queries.{Query, clause, Clause, Tests, no_tests, test, Test, eq_test, QueryFault, unknown_operator, bad_operand, path_fault, Operator, eq_operator, ne_operator, gt_operator, gte_operator, lt_operator, lte_operator, in_operator, nin_operator, all_operator, size_operator, exists_operator, elem_match_operator, not_operator, operators, connectives, named}
use Rattle.query_model.specs.Reading.{◌>>=◌, is_operator_document, some_documents, read_test, read_tests, read_asked, read_queries, read_connective, read_path_clause, read_clauses, read_within, read_tests_within}
use Rattle.query_model.proofs.KeysAsked.{id_path}
use Rattle.query_model.proofs.Names.{name_of_path}

-- what is read, if it is read, has the property
abbrev pub IfRead : {A : Type 0} → (A → Type 0) → Result A QueryFault → Type 0
IfRead P (Ok x) = P x
IfRead P (Err e) = Unit {0}

read_says : {A : Type 0} (P : A → Type 0) (r : Result A QueryFault) (x : A) → IfRead P r → r ≡ Ok x → P x
read_says P (Ok y) x h e =
    let same : y ≡ x = cc in
    subst P same h
read_says P (Err f) x h e = absurd cc

pub then_read : {A B : Type 0} (P : A → Type 0) (Q : B → Type 0) (r : Result A QueryFault) (f : A → Result B QueryFault) →
    IfRead P r → ((x : A) → P x → IfRead Q (f x)) → IfRead Q (r >>= f)
then_read P Q (Ok x) f h k = k x h
then_read P Q (Err e) f h k = tt

pub if_read : {A : Type 0} (P : A → Type 0) (b : Bool) (r s : Result A QueryFault) → IfRead P r → IfRead P s → IfRead P (if b then r else s)
if_read P true r s h k = h
if_read P false r s h k = k

read_anything : {A : Type 0} (r : Result A QueryFault) → IfRead (λ x. Unit {0}) r
read_anything (Ok x) = tt
read_anything (Err e) = tt

as_path : (r : Result Path PathFault) → IfRead (λ path. r ≡ Ok path) (result_map_both (λ path. path) path_fault r)
as_path (Ok path) = refl
as_path (Err e) = tt

-- ---- names

one_answer : (a b : Bool) → (a ≡ true → b ≡ true) → (b ≡ true → a ≡ true) → a ≡ b
one_answer true b f g = sym (f refl)
one_answer false true f g = g refl
one_answer false false f g = refl

turned : (xs ys : List ℕ) → bytes_eq xs ys ≡ true → bytes_eq ys xs ≡ true
turned xs ys e = (bytes_eq-Decides ys xs).1 (sym ((bytes_eq-Decides xs ys).0 e))

flipped : (xs ys : List ℕ) → bytes_eq xs ys ≡ bytes_eq ys xs
flipped xs ys = one_answer (bytes_eq xs ys) (bytes_eq ys xs) (turned xs ys) (turned ys xs)

id_read : (path : Path) → read_path (codes "_id") ≡ Ok path → is_id path ≡ true
id_read path e = ap is_id (sym (the_path path e))
  where
    the_path : (p : Path) → read_path (codes "_id") ≡ Ok p → codes "_id" ∷ [] ≡ p
    the_path p e = cc

path_of_id : (name : List ℕ) (path : Path) → read_path name ≡ Ok path → is_id path ≡ bytes_eq name (codes "_id")
path_of_id name path e =
    one_answer (is_id path) (bytes_eq name (codes "_id"))
    (λ id. (bytes_eq-Decides name (codes "_id")).1
    (sym (name_of_path name path e) ∙ ap (λ (p : Path). join_with_byte 46 p) (id_path path id)))
    (λ same. id_read path (ap read_path (sym ((bytes_eq-Decides name (codes "_id")).0 same)) ∙ e))

id_is_plain : (name : List ℕ) → bytes_eq name (codes "_id") ≡ true → begins_with_dollar name ≡ false
id_is_plain name e = ap begins_with_dollar ((bytes_eq-Decides name (codes "_id")).0 e)

not_id : (id dollar : Bool) → (id ≡ true → dollar ≡ false) → dollar ≡ true → id ≡ false
not_id true true f e = f refl
not_id true false f e = sym e
not_id false dollar f e = refl

-- ---- tests

abbrev is_equality : Operator → Bool
is_equality eq_operator = true
is_equality operator = false

abbrev IsOther : Option Operator → Type 0
IsOther None = Unit {0}
IsOther (Some operator) = is_equality operator ≡ false

other_row : (b : Bool) (operator : Operator) (found : Option Operator) → is_equality operator ≡ false → IsOther found →
    IsOther (if b then Some operator else found)
other_row true operator found h k = h
other_row false operator found h k = k

other_rows : (rows : List (List ℕ × Operator)) (name : List ℕ) → AllByRecursion (λ row. is_equality row.1 ≡ false) rows → IsOther (named rows name)
other_rows [] name h = tt
other_rows (row ∷ rows) name h = other_row (bytes_eq row.0 name) row.1 (named rows name) h.0 (other_rows rows name h.1)

abbrev behind_the_first : List (List ℕ × Operator) → List (List ℕ × Operator)
behind_the_first [] = []
behind_the_first (row ∷ rows) = rows

other_operators : (name : List ℕ) → IsOther (named (behind_the_first operators) name)
other_operators name =
    let each : AllByRecursion (λ row. is_equality row.1 ≡ false) (behind_the_first operators) =
    (refl, (refl, (refl, (refl, (refl, (refl, (refl, (refl, (refl, (refl, (refl, (refl, tt)))))))))))) in
    other_rows (behind_the_first operators) name each

module _ (inner : Fields → Result Query QueryFault) (inner_tests : Fields → Result Tests QueryFault) where
  abbrev Passes : Test → Type 0
  Passes first = (others : Tests) → equality_in (test first others) ≡ equality_in others

  other_test : (operator : Operator) (d : Datum) → is_equality operator ≡ false → IfRead Passes (read_test inner inner_tests operator d)
  other_test eq_operator d h = absurd cc
  other_test ne_operator d h = λ others. refl
  other_test gt_operator d h = λ others. refl
  other_test gte_operator d h = λ others. refl
  other_test lt_operator d h = λ others. refl
  other_test lte_operator d h = λ others. refl
  other_test in_operator (array_value ds) h = λ others. refl
  other_test nin_operator (array_value ds) h = λ others. refl
  other_test all_operator (array_value ds) h = λ others. refl
  other_test size_operator (int32_value n) h = λ others. refl
  other_test size_operator (int64_value n) h = λ others. refl
  other_test exists_operator (boolean_value b) h = λ others. refl
  other_test elem_match_operator (document_value ms) h =
      if_read Passes (is_operator_document ms) _ _
      (then_read (λ tests. Unit {0}) Passes (inner_tests ms) _ (read_anything (inner_tests ms)) (λ tests k. λ others. refl))
      (then_read (λ asked. Unit {0}) Passes (inner ms) _ (read_anything (inner ms)) (λ asked k. λ others. refl))
  other_test not_operator (document_value ms) h =
      if_read Passes (is_operator_document ms) _ _
      (then_read (λ tests. Unit {0}) Passes (inner_tests ms) _ (read_anything (inner_tests ms)) (λ tests k. λ others. refl)) tt
  other_test operator d h = tt

  one_test : (b : Bool) (found : Option Operator) (d : Datum) (ms : Fields) → IsOther found →
      IfRead (λ tests. get (codes "$eq") ms ≡ equality_in tests) (read_tests inner inner_tests ms) →
      IfRead (λ tests. (if b then Some d else get (codes "$eq") ms) ≡ equality_in tests)
      (ok_or (if b then Some eq_operator else found) unknown_operator
      >>= λ operator. read_test inner inner_tests operator d >>= λ first. read_tests inner inner_tests ms >>= λ others. Ok (test first others))
  one_test true found d ms other h =
      then_read (λ tests. Unit {0}) _ (read_tests inner inner_tests ms) _ (read_anything (read_tests inner inner_tests ms)) (λ others k. refl)
  one_test false None d ms other h = tt
  one_test false (Some operator) d ms other h =
      then_read Passes _ (read_test inner inner_tests operator d) _ (other_test operator d other)
      (λ first passes. then_read (λ tests. get (codes "$eq") ms ≡ equality_in tests) _ (read_tests inner inner_tests ms) _ h
      (λ others k. k ∙ sym (passes others)))

  tests_asked : (ms : Fields) → IfRead (λ tests. get (codes "$eq") ms ≡ equality_in tests) (read_tests inner inner_tests ms)
  tests_asked no_fields = refl
  tests_asked (field name d ms) =
      rw (flipped name (codes "$eq"))
      (one_test (bytes_eq (codes "$eq") name) (named (behind_the_first operators) name) d ms (other_operators name) (tests_asked ms))

  by_kind : (b : Bool) (ms : Fields) →
      IfRead (λ tests. (if b then get (codes "$eq") ms else Some (document_value ms)) ≡ equality_in tests)
      (if b then read_tests inner inner_tests ms else Ok (test (eq_test (document_value ms)) no_tests))
  by_kind true ms = tests_asked ms
  by_kind false ms = refl

  value_read : (d : Datum) → IfRead (λ tests. value_asked d ≡ equality_in tests) (read_asked inner inner_tests d)
  value_read (document_value ms) = by_kind (is_operator_document ms) ms
  value_read d = refl

  -- ---- clauses

  abbrev AsksFirst : List ℕ → Datum → Clause → Type 0
  AsksFirst name d first = (others : Query) →
      (if bytes_eq name (codes "_id") then option_or (value_asked d) (key_asked others) else key_asked others) ≡ key_asked (clause first others)

  connective_read : (name : List ℕ) (d : Datum) → begins_with_dollar name ≡ true → IfRead (AsksFirst name d) (read_connective inner inner_tests name d)
  connective_read name d dollar =
      then_read (λ c. Unit {0}) (AsksFirst name d) (ok_or (named connectives name) unknown_operator) _ (read_anything (ok_or (named connectives name) unknown_operator))
      (λ connective k. then_read (λ c. Unit {0}) (AsksFirst name d) (ok_or (some_documents d) bad_operand) _ (read_anything (ok_or (some_documents d) bad_operand))
      (λ documents k. then_read (λ c. Unit {0}) (AsksFirst name d) (read_queries inner inner_tests documents) _ (read_anything (read_queries inner inner_tests documents))
      (λ queries k. λ others. rw (not_id (bytes_eq name (codes "_id")) (begins_with_dollar name) (id_is_plain name) dollar) refl)))

  path_read : (name : List ℕ) (d : Datum) → IfRead (AsksFirst name d) (read_path_clause inner inner_tests name d)
  path_read name d =
      then_read (λ path. read_path name ≡ Ok path) (AsksFirst name d) (result_map_both (λ path. path) path_fault (read_path name)) _ (as_path (read_path name))
      (λ path is. then_read (λ tests. value_asked d ≡ equality_in tests) (AsksFirst name d) (read_asked inner inner_tests d) _ (value_read d)
      (λ tests asks. λ others. rw (path_of_id name path is, asks) refl))

  clause_read : (b : Bool) (name : List ℕ) (d : Datum) → begins_with_dollar name ≡ b →
      IfRead (AsksFirst name d) (if b then read_connective inner inner_tests name d else read_path_clause inner inner_tests name d)
  clause_read true name d is = connective_read name d is
  clause_read false name d is = path_read name d

  clauses_read : (ms : Fields) → IfRead (λ asked. key_asked_in ms ≡ key_asked asked) (read_clauses inner inner_tests ms)
  clauses_read no_fields = refl
  clauses_read (field name d ms) =
      then_read (AsksFirst name d) _ (if begins_with_dollar name then read_connective inner inner_tests name d else read_path_clause inner inner_tests name d) _
      (clause_read (begins_with_dollar name) name d refl)
      (λ first asks. then_read (λ asked. key_asked_in ms ≡ key_asked asked) _ (read_clauses inner inner_tests ms) _ (clauses_read ms)
      (λ others same. rw same (asks others)))

pub keys_of_documents : (document : Fields) (asked : Query) → read_within 100 document ≡ Ok asked → key_asked_in document ≡ key_asked asked
keys_of_documents document asked e =
    read_says (λ q. key_asked_in document ≡ key_asked q) (read_within 100 document) asked
    (clauses_read (read_within 99) (read_tests_within 99) document) e
