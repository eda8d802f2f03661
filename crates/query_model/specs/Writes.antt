-- Writes, in the words of the client: which are writes, and the first fault (MongoDB manual, "insert", "update", "delete", "Upsert
-- Behavior"). An upsert begins with the equalities of its filter, in their order (own: MongoDB puts `_id` first).
use Rattle.std.specs.Prelude.{ℕ, List, [], ◌∷◌, Bool, true, false, ◌&&◌, Option, Some, None, Result, Ok, Err, is_some, if◌then◌else◌}
use Rattle.std.specs.Result.{result_map_both}
use Rattle.bson_model.specs.Tree.{Datum, Fields, no_fields, field}
use Rattle.value_model.specs.Keys.{valid_key}
use Rattle.query_model.specs.Paths.{Path}
use Rattle.query_model.specs.Queries.{Query, no_clauses, clause, Clause, path_clause, connective_clause, Tests, no_tests, test, Test, eq_test, element_query_test, element_tests_test, not_test, QueryFault, bad_operand}
use Rattle.query_model.specs.Reading.{◌>>=◌, read_query}
use Rattle.query_model.specs.KeySpans.{key_equal}
use Rattle.query_model.specs.Changes.{Change, read_change}

-- what a statement does
pub data Write : Type 0 where
  insert_write : Fields → Write
  -- the filter, the change, and what it begins with where no document is there
  update_write : Query → Change → Option Fields → Write
  -- the filter
  delete_write : Query → Write

-- an insert of a document that has a key to be kept under
abbrev pub read_insert : Fields → Result Write QueryFault
read_insert document = result_map_both (λ key. insert_write document) (λ fault. bad_operand) (valid_key document)

-- one name, no dots
abbrev pub is_plain_path : Path → Bool
is_plain_path (part ∷ []) = true
is_plain_path path = false

-- A query from which a document may begin: no dotted path and no connective, at whatever level.
abbrev mutual
  pub is_plain_query : Query → Bool
  is_plain_query no_clauses = true
  is_plain_query (clause first others) = is_plain_clause first && is_plain_query others

  pub is_plain_clause : Clause → Bool
  is_plain_clause (path_clause path tests) = is_plain_path path && are_plain_tests tests
  is_plain_clause (connective_clause _ _) = false

  pub are_plain_tests : Tests → Bool
  are_plain_tests no_tests = true
  are_plain_tests (test first others) = is_plain_test first && are_plain_tests others

  pub is_plain_test : Test → Bool
  is_plain_test (element_query_test inner) = is_plain_query inner
  is_plain_test (element_tests_test tests) = are_plain_tests tests
  is_plain_test (not_test tests) = are_plain_tests tests
  is_plain_test operator = true

-- a field of that name for each `$eq`, before others
abbrev pub with_equalities : List ℕ → Tests → Fields → Fields
with_equalities name no_tests ms = ms
with_equalities name (test (eq_test d) others) ms = field name d (with_equalities name others ms)
with_equalities name (test first others) ms = with_equalities name others ms

-- the equalities at the top of a query, in its order: what an upsert begins with
abbrev pub start_of : Query → Fields
start_of no_clauses = no_fields
start_of (clause (path_clause (part ∷ []) tests) others) = with_equalities part tests (start_of others)
start_of (clause first others) = start_of others

-- what an update begins with: of an upsert a document from a query that targets a key
abbrev pub read_start : Bool → Query → Result (Option Fields) QueryFault
read_start false asked = Ok None
read_start true asked = if is_plain_query asked && is_some (key_equal asked) then Ok (Some (start_of asked)) else Err bad_operand

-- an update with these operands: the first fault of the filter, of the change, and of what the two need for an upsert
abbrev pub read_update : Fields → Fields → Bool → Result Write QueryFault
read_update filter words upsert = do
  asked ← read_query filter
  change ← read_change words
  start ← read_start upsert asked
  Ok (update_write asked change start)

abbrev pub read_delete : Fields → Result Write QueryFault
read_delete filter = read_query filter >>= λ asked. Ok (delete_write asked)
