use Rattle.std.proofs.Common.{◌≡◌, ap, sym, List, true, false, arith}
use Rattle.std.specs.Prelude.{Option}
use Rattle.reply_model.specs.Outcomes as outcomes
use Rattle.protocol_model.specs.Statements.{done_view}
use Rattle.protocol_model.specs.declared.statement.StatementOutcome.{StatementOutcome}
use Rattle.router_writes.specs.Places.{answered, first_open, is_new}
use Rattle.router_writes.proofs.Places.{old_same, new_within, new_more, new_first, stored}
use Rattle.write_runs.specs.Runs.{answers_view}
use Rattle.router_writes.proofs.noted.note_one.Goals as goal

abbrev Answers : Type 0
Answers = List (Option outcomes.StatementOutcome)

pub returns-then-not-is_new-clause-answers : goal.returns-then-not-is_new-clause-answers
returns-then-not-is_new-clause-answers c =
    let items = c.args.answers.now.items in
    let old : is_new c.args.ordered c.args.done.now.index (answers_view items) ≡ false = cc in
    sym (old_same c.args.ordered (done_view c.args.done.now) (answers_view items) old)

pub put-requires : goal.put-requires
put-requires c =
    let items = c.args.answers.now.items in
    let new : is_new c.args.ordered c.args.done.now.index (answers_view items) ≡ true = cc in
    omega (arith, new_within c.args.ordered c.args.done.now.index items new, c.args.answers.now.ok.0)

pub first_from-requires : goal.first_from-requires
first_from-requires c =
    let items = c.args.answers.now.items in
    let new : is_new c.args.ordered c.args.done.now.index (answers_view items) ≡ true = cc in
    let after = stored c.args.ordered c.args.done.now items c.put.new.list.items c.in_ok-outcome.outcome new c.put.ensures c.in_ok-outcome.ensures in
    let first = ap (λ (l : Answers). first_open l) after in
    let slice = ap (λ (l : List (Option StatementOutcome)). first_open (answers_view l)) c.deref-2.ensures.value in
    omega (arith, first, slice, c.requires, new_first c.args.ordered (done_view c.args.done.now) (answers_view items) new)

pub returns-clause-answers : goal.returns-clause-answers
returns-clause-answers c =
    let items = c.args.answers.now.items in
    let new : is_new c.args.ordered c.args.done.now.index (answers_view items) ≡ true = cc in
    stored c.args.ordered c.args.done.now items c.put.new.list.items c.in_ok-outcome.outcome new c.put.ensures c.in_ok-outcome.ensures

pub returns-clause-changed : goal.returns-clause-changed
returns-clause-changed c =
    let items = c.args.answers.now.items in
    let new : is_new c.args.ordered c.args.done.now.index (answers_view items) ≡ true = cc in
    let after = stored c.args.ordered c.args.done.now items c.put.new.list.items c.in_ok-outcome.outcome new c.put.ensures c.in_ok-outcome.ensures in
    let many = ap (λ (l : Answers). answered l) after in
    omega (arith, many, new_more c.args.ordered (done_view c.args.done.now) (answers_view items) new)
