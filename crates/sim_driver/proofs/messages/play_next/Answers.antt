use Rattle.std.proofs.Common.{◌∙◌, sym, ap}
use Rattle.driver_steps.specs.Seats.{seat_since}
use Rattle.driver_steps.specs.Together.{hosted}
use Rattle.driver_steps.specs.Worlds.{network_view}
use Rattle.script_lines.specs.Lines.{next_line}
use Rattle.sim_driver.specs.Moves.{IsPartOfDelivery}
use Rattle.sim_driver.specs.Plays.{IsPartOfWhole, none_of_kind}
use Rattle.sim_driver.specs.LineOutcomes.{stops_unplayed}
use Rattle.sim_driver.specs.Scripts.{next_from, script_view}
use Rattle.sim_driver.proofs.Deliveries.{all_sent}
use Rattle.sim_driver.proofs.Faults.{cut_as, still}
use Rattle.sim_driver.proofs.PlayedLines.{next_part, next_played, stops_either}
use Rattle.driver_steps.proofs.DiskNotes.{no_more}
use Rattle.sim_driver.proofs.messages.play_next.Goals as goal

pub returns-in-None-clause-stops : goal.returns-in-None-clause-stops
returns-in-None-clause-stops g c since w handed s =
    let all = all_sent (seat_since g.N.Node.state g.N.Node.steps g.L.Log.facts since) _ _ handed w s in
    let place = ap (λ l. next_from 0 c.args.kind.now c.args.script.now.delivered l) all
    ∙ sym (rw c.next-first.ensures.same at c.in-None.ensures.place) in
    stops_unplayed (none_of_kind c.args.kind.now place) (still (seat_since g.N.Node.state g.N.Node.steps g.L.Log.facts since) _ _ handed w s)

pub returns-in-Err-clause-stops : goal.returns-in-Err-clause-stops
returns-in-Err-clause-stops g c since w handed s =
    let all = all_sent (seat_since g.N.Node.state g.N.Node.steps g.L.Log.facts since) _ _ handed w s in
    let place = ap (λ l. next_from 0 c.args.kind.now c.args.script.now.delivered l) all
    ∙ sym (rw c.next-first.ensures.same at c.in-Some.ensures.place) in
    stops_either (seat_since g.N.Node.state g.N.Node.steps g.L.Log.facts since) _ w
    (next_line c.args.kind.now) (script_view c.args.script.now) c.in-Err.status c.in-Err.ensures.other
    (cut_as (seat_since g.N.Node.state g.N.Node.steps g.L.Log.facts since) _ w
    (IsPartOfDelivery w c.in-Some.at)
    (IsPartOfWhole w (script_view c.args.script.now) (next_line c.args.kind.now)) c.in-Err.status
    (λ events p. next_part (seat_since g.N.Node.state g.N.Node.steps g.L.Log.facts since)
    (hosted g.K.Sink.tells g.L.Log.facts since (g.K.Sink.noted c.args.out.now) c.args.seats.now.items)
    (network_view (λ m. g.N.Mail.Mail.letter m) c.args.network.now) handed w
    (script_view c.args.script.now) c.args.kind.now c.in-Some.at events place p)
    (c.in-Err.ensures.cut since w handed s))

pub returns-in-Ok-clause-played : goal.returns-in-Ok-clause-played
returns-in-Ok-clause-played g c since w handed s =
    let all = all_sent (seat_since g.N.Node.state g.N.Node.steps g.L.Log.facts since) _ _ handed w s in
    let place = ap (λ l. next_from 0 c.args.kind.now c.args.script.now.delivered l) all
    ∙ sym (rw c.next-first.ensures.same at c.in-Some.ensures.place) in
    next_played (seat_since g.N.Node.state g.N.Node.steps g.L.Log.facts since)
    (hosted g.K.Sink.tells g.L.Log.facts since (g.K.Sink.noted c.deliver_and_mark.new.out) c.deliver_and_mark.new.seats.items)
    (network_view (λ m. g.N.Mail.Mail.letter m) c.deliver_and_mark.new.network) handed w (script_view c.args.script.now) c.args.kind.now c.in-Some.at
    c.deliver_and_mark.new.delivered (rw c.next-first.ensures.same at c.in-Ok.ensures.marked) place (c.in-Ok.ensures.delivered since w handed s)

pub returns-in-None-clause-noted : goal.returns-in-None-clause-noted
returns-in-None-clause-noted g c shown = no_more (g.K.Sink.noted c.args.out.now)
