use Rattle.std.proofs.Common.{◌∙◌, ap, map, refl, sym}
use Rattle.std.specs.Prelude.{option_map}
use Rattle.std.specs.List.{slice_get}
use Rattle.driver_steps.specs.Seats.{left_of, seat_since}
use Rattle.sim_driver.specs.Moves.{has_passed, has_delivered}
use Rattle.sim_driver.proofs.Deliveries.{all_sent, passes_by}
use Rattle.sim_driver.proofs.Falls.{less_passed}
use Rattle.driver_steps.proofs.DiskNotes.{no_more}
use Rattle.sim_driver.proofs.deliver.deliver_unless.Goals as goal

pub returns-then-is_passed-clause-delivered : goal.returns-then-is_passed-clause-delivered
returns-then-is_passed-clause-delivered g c since w handed s =
    let there = c.is_passed.ensures in
    let got = ap (λ l. slice_get l c.args.at) (all_sent (seat_since g.N.Node.state g.N.Node.steps g.L.Log.facts since) _ _ handed w s) ∙ there.1 in
    has_passed there.0 got (sym there.2 ∙ c.if-is_passed.true) s refl

pub returns-in-Ok-clause-delivered : goal.returns-in-Ok-clause-delivered
returns-in-Ok-clause-delivered g c since w handed s =
    let there = c.is_passed.ensures in
    let got = ap (λ l. slice_get l c.args.at) (all_sent (seat_since g.N.Node.state g.N.Node.steps g.L.Log.facts since) _ _ handed w s) ∙ there.1 in
    let d = c.in-Ok.ensures.delivered since w handed s in
    has_delivered d (passes_by w.sent c.args.at there.0 d.message (option_map (λ k. k.now) c.args.except) c.args.delivered.now got d.got
    (sym there.2 ∙ c.if-is_passed.false)) c.in-Ok.ensures.marked

pub returns-then-is_passed-clause-falls : goal.returns-then-is_passed-clause-falls
returns-then-is_passed-clause-falls g c =
    let there = c.is_passed.ensures in
    less_passed (left_of g.N.Node.steps c.args.seats.now.items) c.args.at (map (λ m. g.N.Mail.Mail.letter m) c.args.network.now.waiting.items) there.0 there.1

pub returns-then-is_passed-clause-noted : goal.returns-then-is_passed-clause-noted
returns-then-is_passed-clause-noted g c shown = no_more (g.K.Sink.noted c.args.out.now)
