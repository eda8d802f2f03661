use Rattle.std.proofs.Common.{◌∙◌, ◌<◌, length, sym, ap, arith}
use Rattle.driver_steps.specs.Seats.{seat_since}
use Rattle.driver_steps.specs.Together.{hosted}
use Rattle.driver_steps.specs.Worlds.{network_view}
use Rattle.driver_steps.proofs.Seats.{held_len}
use Rattle.script_lines.specs.Lines.{deliver_line}
use Rattle.sim_driver.specs.Moves.{IsPartOfDelivery}
use Rattle.sim_driver.specs.Plays.{IsPartOfWhole, names_delivered, no_message, no_node}
use Rattle.sim_driver.specs.LineOutcomes.{stops_unplayed}
use Rattle.sim_driver.specs.Scripts.{place_from, script_view}
use Rattle.sim_driver.proofs.Deliveries.{all_sent}
use Rattle.sim_driver.proofs.Faults.{cut_as, still}
use Rattle.sim_driver.proofs.PlayedLines.{deliver_part, deliver_played, stops_either}
use Rattle.driver_steps.proofs.DiskNotes.{no_more}
use Rattle.sim_driver.proofs.messages.play_deliver.Goals as goal

pub returns-then-node-len-clause-stops : goal.returns-then-node-len-clause-stops
returns-then-node-len-clause-stops g c since w handed s =
    let count = held_len (seat_since g.N.Node.state g.N.Node.steps g.L.Log.facts since)
    c.args.seats.now.items w.nodes s.nodes in
    stops_unplayed (no_node (deliver_line c.args.node c.args.k) c.args.node c.args.k (names_delivered c.args.node c.args.k)
    (omega (arith, count, c.args.seats.now.ok.0, c.len.ensures, c.if-node-len.true)))
    (still (seat_since g.N.Node.state g.N.Node.steps g.L.Log.facts since) _ _ handed w s)

pub returns-in-None-clause-stops : goal.returns-in-None-clause-stops
returns-in-None-clause-stops g c since w handed s =
    let all = all_sent (seat_since g.N.Node.state g.N.Node.steps g.L.Log.facts since) _ _
    handed w s in
    stops_unplayed (no_message (deliver_line c.args.node c.args.k) c.args.node c.args.k (names_delivered c.args.node c.args.k)
    (ap (λ l. place_from 0 c.args.node c.args.k l) all ∙ sym c.in-None.ensures.place))
    (still (seat_since g.N.Node.state g.N.Node.steps g.L.Log.facts since) _ _ handed w s)

pub returns-in-Err-clause-stops : goal.returns-in-Err-clause-stops
returns-in-Err-clause-stops g c since w handed s =
    let all = all_sent (seat_since g.N.Node.state g.N.Node.steps g.L.Log.facts since) _ _
    handed w s in
    let place = ap (λ l. place_from 0 c.args.node c.args.k l) all ∙ sym c.in-Some.ensures.place in
    stops_either (seat_since g.N.Node.state g.N.Node.steps g.L.Log.facts since) _ w
    (deliver_line c.args.node c.args.k) (script_view c.args.script.now)
    c.in-Err.status c.in-Err.ensures.other
    (cut_as (seat_since g.N.Node.state g.N.Node.steps g.L.Log.facts since) _ w
    (IsPartOfDelivery w c.in-Some.at)
    (IsPartOfWhole w (script_view c.args.script.now) (deliver_line c.args.node c.args.k)) c.in-Err.status
    (λ events p. deliver_part (seat_since g.N.Node.state g.N.Node.steps g.L.Log.facts since)
    (hosted g.K.Sink.tells g.L.Log.facts since (g.K.Sink.noted c.args.out.now) c.args.seats.now.items)
    (network_view (λ m. g.N.Mail.Mail.letter m) c.args.network.now) handed w
    (script_view c.args.script.now) c.args.node c.args.k c.in-Some.at events place p)
    (c.in-Err.ensures.cut since w handed s))

pub returns-in-Ok-clause-played : goal.returns-in-Ok-clause-played
returns-in-Ok-clause-played g c since w handed s =
    let count = held_len (seat_since g.N.Node.state g.N.Node.steps g.L.Log.facts since)
    c.args.seats.now.items w.nodes s.nodes in
    let all = all_sent (seat_since g.N.Node.state g.N.Node.steps g.L.Log.facts since) _ _
    handed w s in
    let place = ap (λ l. place_from 0 c.args.node c.args.k l) all ∙ sym c.in-Some.ensures.place in
    let inside : c.args.node < length w.nodes = omega (arith, count, c.args.seats.now.ok.0, c.len.ensures, c.if-node-len.false) in
    deliver_played (seat_since g.N.Node.state g.N.Node.steps g.L.Log.facts since)
    (hosted g.K.Sink.tells g.L.Log.facts since (g.K.Sink.noted c.deliver_and_mark.new.out) c.deliver_and_mark.new.seats.items)
    (network_view (λ m. g.N.Mail.Mail.letter m) c.deliver_and_mark.new.network) handed w (script_view c.args.script.now) c.args.node c.args.k c.in-Some.at
    c.deliver_and_mark.new.delivered c.in-Ok.ensures.marked place inside (c.in-Ok.ensures.delivered since w handed s)

pub returns-then-node-len-clause-noted : goal.returns-then-node-len-clause-noted
returns-then-node-len-clause-noted g c shown = no_more (g.K.Sink.noted c.args.out.now)

pub returns-in-None-clause-noted : goal.returns-in-None-clause-noted
returns-in-None-clause-noted g c shown = no_more (g.K.Sink.noted c.args.out.now)
