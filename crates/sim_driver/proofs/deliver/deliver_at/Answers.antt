use Rattle.std.proofs.Common.{◌∙◌, [], ◌∷◌, refl, ap, arith, map}
use Rattle.std.specs.List.{slice_get}
use Rattle.std.proofs.lemmas.List.{length-map}
use Rattle.node_model.specs.World.{deliver_event, stands}
use Rattle.driver_steps.specs.Seats.{left_of, seat_since}
use Rattle.driver_steps.specs.Moves.{BeginWith}
use Rattle.sim_driver.specs.Moves.{IsPartOfDelivery}
use Rattle.sim_driver.proofs.Deliveries.{all_sent, message_at}
use Rattle.sim_driver.proofs.Falls.{less_sent}
use Rattle.sim_driver.proofs.Faults.{cut_behind, cut_here, still}
use Rattle.pipe_driver.proofs.Serving.{but_for_disks}
use Rattle.std.specs.Prelude.{Err}
use Rattle.driver_steps.proofs.DiskNotes.{no_more}
use Rattle.sim_driver.proofs.deliver.deliver_at.Goals as goal

pub returns-in-Err-clause-cut : goal.returns-in-Err-clause-cut
returns-in-Err-clause-cut g c since w handed s =
    let m = message_at (map (λ m. g.N.Mail.Mail.letter m) c.args.network.now.waiting.items) c.args.at
    (omega (arith, c.requires.at, c.args.network.now.waiting.ok.0, length-map c.args.network.now.waiting.items (λ m. g.N.Mail.Mail.letter m))) in
    let got = ap (λ l. slice_get l c.args.at) (all_sent (seat_since g.N.Node.state g.N.Node.steps g.L.Log.facts since) _ _ handed w s) ∙ m.1 in
    cut_here (seat_since g.N.Node.state g.N.Node.steps g.L.Log.facts since) _ w [] w
    (IsPartOfDelivery w c.args.at) _ (stands w)
    (record { message = m.0; got = got; first = (deliver_event m.0.receiver c.args.at ∷ [], refl) })
    (still (seat_since g.N.Node.state g.N.Node.steps g.L.Log.facts since) _ _ handed w s)

pub returns-in-Ok-deliver-clause-delivered : goal.returns-in-Ok-deliver-clause-delivered
returns-in-Ok-deliver-clause-delivered g c since w handed s =
    let got = ap (λ l. slice_get l c.args.at) (all_sent (seat_since g.N.Node.state g.N.Node.steps g.L.Log.facts since) _ _ handed w s)
    ∙ c.in-Ok.ensures in
    let d = c.in-Ok-deliver.ensures.delivered since w 0 c.args.at handed s got in
    record { message = g.N.Mail.Mail.letter c.in-Ok.message; end = d.end; got = got; delivers = d.delivers; stands = d.stands }

pub returns-in-Err-deliver-clause-cut : goal.returns-in-Err-deliver-clause-cut
returns-in-Err-deliver-clause-cut g c since w handed s =
    let got = ap (λ l. slice_get l c.args.at) (all_sent (seat_since g.N.Node.state g.N.Node.steps g.L.Log.facts since) _ _ handed w s)
    ∙ c.in-Ok.ensures in
    cut_behind (seat_since g.N.Node.state g.N.Node.steps g.L.Log.facts since) _ _ handed w [] w
    (λ events. BeginWith events (deliver_event (g.N.Mail.Mail.letter c.in-Ok.message).receiver c.args.at ∷ []))
    (IsPartOfDelivery w c.args.at) c.in-Err-deliver.e _ c.of.ensures (stands w)
    (λ more first. record { message = g.N.Mail.Mail.letter c.in-Ok.message; got = got; first = first })
    (c.in-Err-deliver.ensures.stopped since w 0 c.args.at handed s got)

pub returns-in-Ok-deliver-clause-falls : goal.returns-in-Ok-deliver-clause-falls
returns-in-Ok-deliver-clause-falls g c =
    less_sent (λ m. g.N.Mail.Mail.letter m) (left_of g.N.Node.steps c.args.seats.now.items) (left_of g.N.Node.steps c.deliver.new.seats.items) c.args.at
    c.args.network.now.waiting.items c.deliver.new.network.waiting.items (g.N.Mail.Mail.letter c.in-Ok.message) c.in-Ok.ensures c.in-Ok-deliver.ensures.sends
    c.in-Ok-deliver.ensures.falls

pub returns-in-Err-deliver-clause-open : goal.returns-in-Err-deliver-clause-open
returns-in-Err-deliver-clause-open g c = λ disk.
    but_for_disks c.in-Err-deliver.e _ _ c.of.ensures (λ is. disk (ap Err is)) c.in-Err-deliver.ensures.«open»

pub returns-in-Err-clause-noted : goal.returns-in-Err-clause-noted
returns-in-Err-clause-noted g c shown = no_more (g.K.Sink.noted c.args.out.now)
