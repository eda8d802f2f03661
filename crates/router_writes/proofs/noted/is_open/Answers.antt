use Rattle.std.proofs.Common.{◌∙◌, ◌<◌, ◌≤◌, sym, length, arith}
use Rattle.std.specs.Prelude.{is_some}
use Rattle.std.proofs.lemmas.Bool.Decides.{nat_tests}
use Rattle.router_writes.proofs.Places.{length_view, none_is, open_place, shut_past}
use Rattle.write_runs.specs.Runs.{answers_view}
use Rattle.router_writes.proofs.noted.is_open.Goals as goal

pub returns-then-index-answers : goal.returns-then-index-answers
returns-then-index-answers c =
    let within : c.args.index < length c.args.answers.now = omega (arith, c.if-index-answers.true) in
    sym (open_place c.args.answers.now c.args.index c.index-answers-index.result within c.index-answers-index.is
    ∙ none_is (is_some c.index-answers-index.result) c.is_none.result c.is_none.ensures)

pub returns-else-index-answers : goal.returns-else-index-answers
returns-else-index-answers c =
    let past : length (answers_view c.args.answers.now) ≤ c.args.index = omega (arith, length_view c.args.answers.now, c.if-index-answers.false) in
    let shut = shut_past (answers_view c.args.answers.now) c.args.index past in
    grind (arith, nat_tests, shut)
