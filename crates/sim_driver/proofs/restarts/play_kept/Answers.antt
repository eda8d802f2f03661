use Rattle.std.proofs.Common.{◌∙◌, sym, ap, subst, arith, inl, inr}
use Rattle.std.specs.List.{slice_get}
use Rattle.std.specs.Prelude.{Err, Some}
use Rattle.node_model.specs.World.{deliver_event}
use Rattle.driver_steps.proofs.DiskNotes.{no_more}
use Rattle.driver_steps.specs.Seats.{seat_since}
use Rattle.driver_steps.specs.Together.{hosted}
use Rattle.driver_steps.specs.Worlds.{network_view}
use Rattle.driver_steps.proofs.Seats.{held_len}
use Rattle.pipe_driver.specs.declared.status.Status.{Status}
use Rattle.script_lines.specs.Lines.{kept_line}
use Rattle.sim_driver.specs.LineOutcomes.{StopsLine, line_unplayed}
use Rattle.sim_driver.specs.Plays.{names_kept, no_message, no_node}
use Rattle.sim_driver.specs.Scripts.{marked, place_from, script_view}
use Rattle.sim_driver.proofs.Deliveries.{all_sent}
use Rattle.sim_driver.proofs.Faults.{still}
use Rattle.sim_driver.proofs.Stopped.{failed, gives_it, not_stopped, returned, stops_in}
use Rattle.sim_driver.proofs.restarts.play_kept.Goals as goal

pub returns-then-node-len-clause-stops : goal.returns-then-node-len-clause-stops
returns-then-node-len-clause-stops g c told since w handed may s =
    let count = held_len (seat_since g.N.Node.state g.N.Node.steps g.L.Log.facts since) c.args.seats.now.items w.nodes s.nodes in
    line_unplayed (no_node (kept_line c.args.node c.args.k) c.args.node c.args.k (names_kept c.args.node c.args.k)
    (omega (arith, count, c.args.seats.now.ok.0, c.len.ensures, c.if-node-len.true)))
    (still (seat_since g.N.Node.state g.N.Node.steps g.L.Log.facts since) _ _ handed w s)

pub returns-in-Err-clause-stops : goal.returns-in-Err-clause-stops
returns-in-Err-clause-stops g c told since w handed may s =
    let view = seat_since g.N.Node.state g.N.Node.steps g.L.Log.facts since in
    let old = script_view c.args.script.now in
    let before = hosted g.K.Sink.tells g.L.Log.facts since (g.K.Sink.noted c.args.out.now) c.args.seats.now.items in
    let all = all_sent view _ _ handed w s in
    elim c.in-Err.ensures.either [
      | inl bad ↦ subst (λ (n : Status). StopsLine view before w (kept_line c.args.node c.args.k) old n) (sym bad)
          (line_unplayed (no_message (kept_line c.args.node c.args.k) c.args.node c.args.k (names_kept c.args.node c.args.k)
          (ap (λ l. place_from 0 c.args.node c.args.k l) all ∙ c.in-Err.ensures.none (ap Err bad))) (still view _ _ handed w s))
      | inr full ↦
          let at = c.in-Err.ensures.found (ap Err full) in
          let place = ap (λ l. place_from 0 c.args.node c.args.k l) all ∙ at.1 in
          subst (λ (n : Status). StopsLine view before w (kept_line c.args.node c.args.k) old n) (sym full)
          (not_stopped view _ w old (kept_line c.args.node c.args.k) c.args.node (Some (deliver_event c.args.node at.0)) (marked at.0 old.delivered)
          (stops_in w old c.args.node c.args.k at.0 place) (still view _ _ handed w s))
    ]

pub returns-in-Err-copy_at-clause-stops : goal.returns-in-Err-copy_at-clause-stops
returns-in-Err-copy_at-clause-stops g c told since w handed may s =
    let view = seat_since g.N.Node.state g.N.Node.steps g.L.Log.facts since in
    let old = script_view c.args.script.now in
    let all = all_sent view _ _ handed w s in
    let place = ap (λ l. place_from 0 c.args.node c.args.k l) all ∙ c.in-Ok.ensures.taken.place in
    not_stopped view _ w old (kept_line c.args.node c.args.k) c.args.node (Some (deliver_event c.args.node c.in-Ok.at)) (marked c.in-Ok.at old.delivered)
    (stops_in w old c.args.node c.args.k c.in-Ok.at place) (still view _ _ handed w s)

pub returns-in-Ok-play_stop-clause-played : goal.returns-in-Ok-play_stop-clause-played
returns-in-Ok-play_stop-clause-played g c told since w handed may s =
    let view = seat_since g.N.Node.state g.N.Node.steps g.L.Log.facts since in
    let old = script_view c.args.script.now in
    let all = all_sent view _ _ handed w s in
    let place = ap (λ l. place_from 0 c.args.node c.args.k l) all ∙ c.in-Ok.ensures.taken.place in
    let before = hosted g.K.Sink.tells g.L.Log.facts since (g.K.Sink.noted c.args.out.now) c.args.seats.now.items in
    let network = network_view (λ m. g.N.Mail.Mail.letter m) c.args.network.now in
    let got = ap (λ l. slice_get l c.in-Ok.at) all ∙ c.in-Ok-copy_at.ensures in
    returned view _ w old (kept_line c.args.node c.args.k) c.args.node (Some (deliver_event c.args.node c.in-Ok.at)) (marked c.in-Ok.at old.delivered)
    (stops_in w old c.args.node c.args.k c.in-Ok.at place) _ handed (script_view c.take_message.new.script) _ _ c.in-Ok.ensures.taken.marked
    (c.in-Ok-play_stop.ensures.returned told since w handed (Some (deliver_event c.args.node c.in-Ok.at)) may
    (gives_it view before network handed w old c.args.node c.args.k c.in-Ok.at (g.N.Mail.Mail.letter c.in-Ok-copy_at.message) _ place got
    c.prepare-input.ensures) s)

pub returns-in-Err-play_stop-clause-stops : goal.returns-in-Err-play_stop-clause-stops
returns-in-Err-play_stop-clause-stops g c told since w handed may s =
    let view = seat_since g.N.Node.state g.N.Node.steps g.L.Log.facts since in
    let old = script_view c.args.script.now in
    let all = all_sent view _ _ handed w s in
    let place = ap (λ l. place_from 0 c.args.node c.args.k l) all ∙ c.in-Ok.ensures.taken.place in
    let before = hosted g.K.Sink.tells g.L.Log.facts since (g.K.Sink.noted c.args.out.now) c.args.seats.now.items in
    let network = network_view (λ m. g.N.Mail.Mail.letter m) c.args.network.now in
    let got = ap (λ l. slice_get l c.in-Ok.at) all ∙ c.in-Ok-copy_at.ensures in
    failed view _ w old (kept_line c.args.node c.args.k) c.args.node (Some (deliver_event c.args.node c.in-Ok.at)) (marked c.in-Ok.at old.delivered)
    (stops_in w old c.args.node c.args.k c.in-Ok.at place) c.in-Err-play_stop.status c.in-Err-play_stop.ensures.other
    (c.in-Err-play_stop.ensures.cut told since w handed (Some (deliver_event c.args.node c.in-Ok.at)) may
    (gives_it view before network handed w old c.args.node c.args.k c.in-Ok.at (g.N.Mail.Mail.letter c.in-Ok-copy_at.message) _ place got
    c.prepare-input.ensures) s)

pub returns-then-node-len-clause-noted : goal.returns-then-node-len-clause-noted
returns-then-node-len-clause-noted g c shown = no_more (g.K.Sink.noted c.args.out.now)

pub returns-in-Err-clause-noted : goal.returns-in-Err-clause-noted
returns-in-Err-clause-noted g c shown = no_more (g.K.Sink.noted c.args.out.now)

pub returns-in-Err-copy_at-clause-noted : goal.returns-in-Err-copy_at-clause-noted
returns-in-Err-copy_at-clause-noted g c shown = no_more (g.K.Sink.noted c.args.out.now)
