use Rattle.std.proofs.Common.{◌≡◌, ap, sym, true, false, arith}
use Rattle.std.specs.Arc.{arc_value}
use Rattle.command_replies.specs.Refusals.{refusal_view}
use Rattle.command_replies.specs.declared.refusal.Refusal.{Refusal}
use Rattle.reply_model.specs.Outcomes.{was_refused}
use Rattle.router_writes.specs.Places.{is_open}
use Rattle.router_writes.proofs.Places.{new_within, shut_same}
use Rattle.router_writes.proofs.Refusing.{refused_here}
use Rattle.write_runs.specs.Runs.{answers_view}
use Rattle.router_writes.proofs.given.refuse.Goals as goal

pub put-requires : goal.put-requires
put-requires c =
    let items = c.args.answers.now.items in
    let opens : is_open c.args.index (answers_view items) ≡ true = cc in
    omega (arith, new_within false c.args.index items opens, c.args.answers.now.ok.0)

pub returns-in_ok-shared : goal.returns-in_ok-shared
returns-in_ok-shared c =
    let items = c.args.answers.now.items in
    let opens : is_open c.args.index (answers_view items) ≡ true = cc in
    refused_here c.args.index items c.put.new.list.items _ (refusal_view (arc_value c.args.refusal.now)) opens c.put.ensures
    (ap (λ (r : Refusal). was_refused (refusal_view r)) c.in_ok-shared.ensures)

pub returns-else-is_open : goal.returns-else-is_open
returns-else-is_open c =
    let items = c.args.answers.now.items in
    let shut : is_open c.args.index (answers_view items) ≡ false = cc in
    sym (shut_same c.args.index (was_refused (refusal_view (arc_value c.args.refusal.now))) (answers_view items) shut)
