-- Which elements pass a test of elements.
use Rattle.std.specs.Prelude.{Bool, true, false, ◌||◌, not, Some, None}
use Rattle.std.specs.List.{list_any}
use Rattle.bson_values.specs.Tree.{Datum, Fields}
use Rattle.query_model.specs.Holds.{holds, tests_hold, alone}
use Rattle.query_model.specs.Paths.{as_document, elements_of}
use Rattle.query_model.specs.Queries.{Queries, no_queries, query, Test, element_query_test, element_tests_test}

abbrev pub same_answer : Bool → Bool → Bool
same_answer true b = b
same_answer false b = not b

-- a query gives this answer
abbrev pub some_answer : Bool → Queries → Fields → Bool
some_answer answer no_queries document = false
some_answer answer (query first others) document = same_answer answer (holds first document) || some_answer answer others document

-- an element by itself
abbrev pub element_passes : Test → Datum → Bool
element_passes (element_query_test inner) d = elim (as_document d) [ None ↦ false | Some ms ↦ holds inner ms ]
element_passes (element_tests_test tests) d = tests_hold tests (alone d)
element_passes test d = false

-- a value that is an array has such an element
abbrev pub value_passes : Test → Datum → Bool
value_passes test d = list_any (element_passes test) (elements_of d)
