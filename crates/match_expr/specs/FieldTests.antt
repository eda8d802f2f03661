-- One field of an operator document, as a test, and the tests of a path, as a clause.
use Rattle.std.specs.Prelude.{ℕ, List, Result, Ok, ok_or}
use Rattle.bson_values.specs.Tree.{Datum, Fields}
use Rattle.query_model.specs.Paths.{Path}
use Rattle.query_model.specs.Queries.{Query, Clause, path_clause, Tests, Test, QueryFault, unknown_operator, operators, named}
use Rattle.query_model.specs.Reading.{◌>>=◌, read_asked, read_test}

abbrev pub read_field_test : (Fields → Result Query QueryFault) → (Fields → Result Tests QueryFault) → List ℕ → Datum → Result Test QueryFault
read_field_test read_inner read_inner_tests name d =
    ok_or (named operators name) unknown_operator >>= λ operator. read_test read_inner read_inner_tests operator d

abbrev pub read_clause_at : (Fields → Result Query QueryFault) → (Fields → Result Tests QueryFault) → Path → Datum → Result Clause QueryFault
read_clause_at read_inner read_inner_tests path d = read_asked read_inner read_inner_tests d >>= λ tests. Ok (path_clause path tests)
