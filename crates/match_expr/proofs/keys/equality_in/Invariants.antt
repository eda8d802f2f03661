-- What is left of the tests has the equality of the whole.
use Rattle.std.proofs.Common.{◌≡◌, drop}
use Rattle.query_model.specs.KeySpans.{equality_in}
use Rattle.query_model.specs.Queries.{no_tests}
use Rattle.match_expr.specs.View.{tests_before}
use Rattle.match_expr.proofs.keys.equality_in.Given as goal

abbrev pub invariant-loop-test : goal.invariant-loop-test
invariant-loop-test l = equality_in (tests_before (drop l.test-index l.test-items) no_tests) ≡ equality_in l.tests
