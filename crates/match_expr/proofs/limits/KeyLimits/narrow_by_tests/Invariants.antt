-- What is left of the tests narrows the limits as the whole does.
use Rattle.std.proofs.Common.{◌≡◌, drop}
use Rattle.query_model.specs.KeySpans.{narrowed_by_tests}
use Rattle.query_model.specs.Queries.{no_tests}
use Rattle.match_expr.specs.View.{tests_before}
use Rattle.match_expr.proofs.limits.KeyLimits.narrow_by_tests.Given as goal

abbrev pub invariant-loop-test : goal.invariant-loop-test
invariant-loop-test l = narrowed_by_tests (tests_before (drop l.test-index l.test-items) no_tests) l.self ≡ narrowed_by_tests l.tests l.initial.self
