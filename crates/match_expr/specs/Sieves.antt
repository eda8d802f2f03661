-- What a sieve tests.
use Rattle.std.specs.Prelude.{◌≡◌, Bool, true, false}
use Rattle.std.specs.List.{list_any}
use Rattle.bson_values.specs.View.{datum_of}
use Rattle.bson_values.specs.Tree.{Datum, Fields}
use Rattle.value_compare.specs.Order.{same_value}
use Rattle.query_model.specs.Holds.{Found, tests_hold}
use Rattle.query_model.specs.Paths.{candidates_at}
use Rattle.query_model.specs.Queries.{Tests}
use Rattle.match_expr.specs.declared.sieve.Sieve.{Sieve}

-- a value at the path, or an element of one, equals the operand
abbrev pub lets_pass : Sieve → Fields → Bool
lets_pass sieve document = list_any (same_value (datum_of sieve.operand.now)) (candidates_at sieve.path.now document)

-- the tests hold only where a candidate equals the value
abbrev pub NeedsEqual : Tests → Datum → Type 0
NeedsEqual tests x = (found : Found) → tests_hold tests found ≡ true → list_any (same_value x) found.candidates ≡ true
