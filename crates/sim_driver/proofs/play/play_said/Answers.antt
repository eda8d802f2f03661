use Rattle.std.proofs.Common.{◌∙◌, List, ℕ, sym, ap}
use Rattle.std.specs.Prelude.{None, Some}
use Rattle.driver_steps.specs.Seats.{seat_since}
use Rattle.script_lines.specs.Lines.{client_line, deliver_line, moment_line, next_line, settle_line}
use Rattle.script_lines.specs.Meanings.{meaning_of}
use Rattle.sim_driver.proofs.PlayedLines.{played_as, result_played, result_stops, status_stops}
use Rattle.sim_driver.proofs.play.play_said.Goals as goal

pub returns-in-Client-clause-played : goal.returns-in-Client-clause-played
returns-in-Client-clause-played g c asks told since w handed may routers known s =
    result_played (seat_since g.N.Node.state g.N.Node.steps g.L.Log.facts since) _ _ handed w (client_line c.in-Client.router c.deref.result.now)
    (meaning_of c.args.line) _ _ _
    (ap (λ (b : List ℕ). client_line c.in-Client.router b) c.deref.ensures.value ∙ ap meaning_of (sym c.in-Client.is))
    (c.play_client.ensures.played asks since w handed routers s)

pub returns-in-Client-clause-stops : goal.returns-in-Client-clause-stops
returns-in-Client-clause-stops g c asks told since w handed may routers known s =
    result_stops (seat_since g.N.Node.state g.N.Node.steps g.L.Log.facts since) _ w (client_line c.in-Client.router c.deref.result.now)
    (meaning_of c.args.line) _ _
    (ap (λ (b : List ℕ). client_line c.in-Client.router b) c.deref.ensures.value ∙ ap meaning_of (sym c.in-Client.is))
    (c.play_client.ensures.stops asks since w handed routers s)

pub returns-in_ok-play_deliver-in-Deliver-clause-played : goal.returns-in_ok-play_deliver-in-Deliver-clause-played
returns-in_ok-play_deliver-in-Deliver-clause-played g c asks told since w handed may routers known s =
    played_as (seat_since g.N.Node.state g.N.Node.steps g.L.Log.facts since) _ _ handed w (deliver_line c.in-Deliver.node c.in-Deliver.k)
    (meaning_of c.args.line) _ _ _
    (ap meaning_of (sym c.in-Deliver.is))
    (c.in_ok-play_deliver-in-Deliver.ensures.played since w handed s)

pub returns-in_err-play_deliver-in-Deliver-clause-stops : goal.returns-in_err-play_deliver-in-Deliver-clause-stops
returns-in_err-play_deliver-in-Deliver-clause-stops g c asks told since w handed may routers known s =
    status_stops (seat_since g.N.Node.state g.N.Node.steps g.L.Log.facts since) _ w (deliver_line c.in-Deliver.node c.in-Deliver.k)
    (meaning_of c.args.line) _ _ _
    c.from_residual.ensures.1
    (ap meaning_of (sym c.in-Deliver.is))
    (c.in_err-play_deliver-in-Deliver.ensures.stops since w handed s)

pub returns-in_ok-play_moment-in-Moment-clause-played : goal.returns-in_ok-play_moment-in-Moment-clause-played
returns-in_ok-play_moment-in-Moment-clause-played g c asks told since w handed may routers known s =
    played_as (seat_since g.N.Node.state g.N.Node.steps g.L.Log.facts since) _ _ handed w (moment_line c.in-Moment.node c.in-Moment.moment)
    (meaning_of c.args.line) _ _ _
    (ap meaning_of (sym c.in-Moment.is))
    (c.in_ok-play_moment-in-Moment.ensures.played since w handed s)

pub returns-in_err-play_moment-in-Moment-clause-stops : goal.returns-in_err-play_moment-in-Moment-clause-stops
returns-in_err-play_moment-in-Moment-clause-stops g c asks told since w handed may routers known s =
    status_stops (seat_since g.N.Node.state g.N.Node.steps g.L.Log.facts since) _ w (moment_line c.in-Moment.node c.in-Moment.moment)
    (meaning_of c.args.line) _ _ _
    c.from_residual-in_err-play_moment-in-Moment.ensures.1
    (ap meaning_of (sym c.in-Moment.is))
    (c.in_err-play_moment-in-Moment.ensures.stops since w handed s)

pub returns-in_ok-play_settle-in-Settle-clause-played : goal.returns-in_ok-play_settle-in-Settle-clause-played
returns-in_ok-play_settle-in-Settle-clause-played g c asks told since w handed may routers known s =
    played_as (seat_since g.N.Node.state g.N.Node.steps g.L.Log.facts since) _ _ handed w (settle_line None) (meaning_of c.args.line) _ _ _
    (ap meaning_of (sym c.in-Settle.is))
    (c.in_ok-play_settle-in-Settle.ensures.played since w handed known s)

pub returns-in_err-play_settle-in-Settle-clause-stops : goal.returns-in_err-play_settle-in-Settle-clause-stops
returns-in_err-play_settle-in-Settle-clause-stops g c asks told since w handed may routers known s =
    status_stops (seat_since g.N.Node.state g.N.Node.steps g.L.Log.facts since) _ w (settle_line None) (meaning_of c.args.line) _ _ _
    c.from_residual-in_err-play_settle-in-Settle.ensures.1
    (ap meaning_of (sym c.in-Settle.is))
    (c.in_err-play_settle-in-Settle.ensures.stops since w handed known s)

pub returns-in_ok-play_settle-in-SettleExcept-clause-played : goal.returns-in_ok-play_settle-in-SettleExcept-clause-played
returns-in_ok-play_settle-in-SettleExcept-clause-played g c asks told since w handed may routers known s =
    played_as (seat_since g.N.Node.state g.N.Node.steps g.L.Log.facts since) _ _ handed w (settle_line (Some c.as_slice.result.now))
    (meaning_of c.args.line) _ _ _
    (ap (λ (b : List ℕ). settle_line (Some b)) c.as_slice.ensures.value ∙ ap meaning_of (sym c.in-SettleExcept.is))
    (c.in_ok-play_settle-in-SettleExcept.ensures.played since w handed known s)

pub returns-in_err-play_settle-in-SettleExcept-clause-stops : goal.returns-in_err-play_settle-in-SettleExcept-clause-stops
returns-in_err-play_settle-in-SettleExcept-clause-stops g c asks told since w handed may routers known s =
    status_stops (seat_since g.N.Node.state g.N.Node.steps g.L.Log.facts since) _ w (settle_line (Some c.as_slice.result.now)) (meaning_of c.args.line) _ _ _
    c.from_residual-in_err-play_settle-in-SettleExcept.ensures.1
    (ap (λ (b : List ℕ). settle_line (Some b)) c.as_slice.ensures.value ∙ ap meaning_of (sym c.in-SettleExcept.is))
    (c.in_err-play_settle-in-SettleExcept.ensures.stops since w handed known s)

pub returns-in_ok-play_next-in-Next-clause-played : goal.returns-in_ok-play_next-in-Next-clause-played
returns-in_ok-play_next-in-Next-clause-played g c asks told since w handed may routers known s =
    played_as (seat_since g.N.Node.state g.N.Node.steps g.L.Log.facts since) _ _ handed w (next_line c.as_slice-in-Next.result.now)
    (meaning_of c.args.line) _ _ _
    (ap (λ (b : List ℕ). next_line b) c.as_slice-in-Next.ensures.value ∙ ap meaning_of (sym c.in-Next.is))
    (c.in_ok-play_next-in-Next.ensures.played since w handed s)

pub returns-in_err-play_next-in-Next-clause-stops : goal.returns-in_err-play_next-in-Next-clause-stops
returns-in_err-play_next-in-Next-clause-stops g c asks told since w handed may routers known s =
    status_stops (seat_since g.N.Node.state g.N.Node.steps g.L.Log.facts since) _ w (next_line c.as_slice-in-Next.result.now) (meaning_of c.args.line) _ _ _
    c.from_residual-in_err-play_next-in-Next.ensures.1
    (ap (λ (b : List ℕ). next_line b) c.as_slice-in-Next.ensures.value ∙ ap meaning_of (sym c.in-Next.is))
    (c.in_err-play_next-in-Next.ensures.stops since w handed s)

pub returns-in-Restart-clause-played : goal.returns-in-Restart-clause-played
returns-in-Restart-clause-played g c asks told since w handed may routers known s =
    rw (ap meaning_of c.in-Restart.is) (c.play_restart.ensures.played told since w handed may s)

pub returns-in-Restart-clause-stops : goal.returns-in-Restart-clause-stops
returns-in-Restart-clause-stops g c asks told since w handed may routers known s =
    rw (ap meaning_of c.in-Restart.is) (c.play_restart.ensures.stops told since w handed may s)

pub returns-in-RestartKept-clause-played : goal.returns-in-RestartKept-clause-played
returns-in-RestartKept-clause-played g c asks told since w handed may routers known s =
    rw (ap meaning_of c.in-RestartKept.is) (c.play_kept.ensures.played told since w handed may s)

pub returns-in-RestartKept-clause-stops : goal.returns-in-RestartKept-clause-stops
returns-in-RestartKept-clause-stops g c asks told since w handed may routers known s =
    rw (ap meaning_of c.in-RestartKept.is) (c.play_kept.ensures.stops told since w handed may s)

pub returns-in-RestartLost-clause-played : goal.returns-in-RestartLost-clause-played
returns-in-RestartLost-clause-played g c asks told since w handed may routers known s =
    rw (ap meaning_of c.in-RestartLost.is) (c.play_lost.ensures.played told since w handed may s)

pub returns-in-RestartLost-clause-stops : goal.returns-in-RestartLost-clause-stops
returns-in-RestartLost-clause-stops g c asks told since w handed may routers known s =
    rw (ap meaning_of c.in-RestartLost.is) (c.play_lost.ensures.stops told since w handed may s)
