use Rattle.std.proofs.Common.{◌∙◌, ◌<◌, ◌≤◌, length, arith}
use Rattle.std.specs.Prelude.{is_some}
use Rattle.router_writes.proofs.Places.{first_found, first_further, first_past, none_is}
use Rattle.router_writes.proofs.noted.first_from.Goals as goal

pub returns-then-is_none : goal.returns-then-is_none
returns-then-is_none c =
    let within : c.places.first < length c.args.answers.now = omega (arith, c.places-test.true) in
    first_found c.args.answers.now c.places.first c.index-answers-first.result within c.index-answers-first.is (none_is (is_some c.index-answers-first.result) c.is_none.result c.is_none.ensures ∙ c.if-is_none.true)
    c.places.invariant

pub places-preserved : goal.places-preserved
places-preserved c =
    let within : c.places.first < length c.args.answers.now = omega (arith, c.places-test.true) in
    first_further c.args.answers.now c.places.first c.index-answers-first.result within c.index-answers-first.is (none_is (is_some c.index-answers-first.result) c.is_none.result c.is_none.ensures ∙ c.if-is_none.false)
    c.places.invariant

pub returns : goal.returns
returns c =
    let past : length c.args.answers.now ≤ c.places.first = omega (arith, c.places-test.false) in
    first_past c.args.answers.now c.places.first past c.places.invariant
