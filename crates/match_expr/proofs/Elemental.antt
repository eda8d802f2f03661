-- Elements of the arrays that are there, and queries that give an answer, one at a time.
use Rattle.std.proofs.Common.{◌≡◌, List, [], ◌∷◌, ◌++◌, refl, sym, ap, ◌∙◌}
use Rattle.std.specs.Prelude.{Bool, true, false, ◌||◌, ◌&&◌, not, Option, Some, None, flat_map, filter_map}
use Rattle.std.specs.List.{list_any, cons_option}
use Rattle.std.proofs.lemmas.List.Folds.{list_any-append}
use Rattle.bson_values.specs.Tree.{Datum, Fields}
use Rattle.query_model.specs.Holds.{Found, holds, all_hold, some_holds, tests_hold, test_holds, alone}
use Rattle.query_model.specs.Paths.{as_document, elements_of}
use Rattle.query_model.specs.Queries.{Query, Queries, no_queries, query, Tests, element_query_test, element_tests_test}
use Rattle.match_expr.specs.Elements.{same_answer, some_answer, element_passes, value_passes}
use Rattle.bson_model.proofs.Booleans.{not_or}

-- ---- queries

pub some_hold : (qs : Queries) (document : Fields) → some_answer true qs document ≡ some_holds qs document
some_hold no_queries document = refl
some_hold (query first others) document = ap (λ (b : Bool). holds first document || b) (some_hold others document)

pub none_fails : (qs : Queries) (document : Fields) → not (some_answer false qs document) ≡ all_hold qs document
none_fails no_queries document = refl
none_fails (query first others) document =
    not_or (holds first document) (some_answer false others document) ∙ ap (λ (b : Bool). holds first document && b) (none_fails others document)

-- ---- elements

in_arrays : (test : Datum → Bool) (ds : List Datum) → list_any (λ d. list_any test (elements_of d)) ds ≡ list_any test (flat_map elements_of ds)
in_arrays test [] = refl
in_arrays test (d ∷ ds) =
    ap (λ (b : Bool). list_any test (elements_of d) || b) (in_arrays test ds) ∙ sym (list_any-append test (elements_of d) (flat_map elements_of ds))

one_document : (test : Fields → Bool) (o : Option Fields) (ms : List Fields) →
    (elim o [ None ↦ false | Some document ↦ test document ] || list_any test ms) ≡ list_any test (cons_option o ms)
one_document test None ms = refl
one_document test (Some document) ms = refl

documents_pass : (inner : Query) (ds : List Datum) →
    list_any (element_passes (element_query_test inner)) ds ≡ list_any (holds inner) (filter_map as_document ds)
documents_pass inner [] = refl
documents_pass inner (d ∷ ds) =
    ap (λ (b : Bool). element_passes (element_query_test inner) d || b) (documents_pass inner ds)
    ∙ one_document (holds inner) (as_document d) (filter_map as_document ds)

pub query_passes : (inner : Query) (found : Found) →
    list_any (value_passes (element_query_test inner)) found.values ≡ test_holds (element_query_test inner) found
query_passes inner found = in_arrays (element_passes (element_query_test inner)) found.values ∙ documents_pass inner (flat_map elements_of found.values)

pub tests_pass : (tests : Tests) (found : Found) →
    list_any (value_passes (element_tests_test tests)) found.values ≡ test_holds (element_tests_test tests) found
tests_pass tests found = in_arrays (element_passes (element_tests_test tests)) found.values
