use Rattle.std.proofs.Common.{refl, ap}
use Rattle.std.specs.Prelude.{Err}
use Rattle.node_replay.specs.Restarts.{restart_event}
use Rattle.driver_steps.specs.Restarts.{BeginToStop, by_itself, stop_and_open}
use Rattle.driver_steps.proofs.DiskNotes.{no_more}
use Rattle.driver_steps.specs.Seats.{seat_since}
use Rattle.pipe_driver.proofs.Serving.{but_for_disks}
use Rattle.pipe_driver.specs.declared.status.Status.TheVariants as statuses
use Rattle.sim_driver.proofs.Faults.{cut_in_here, cut_in_stop, still}
use Rattle.sim_driver.proofs.restarts.play_stop.Goals as goal

pub returns-in-Err-clause-cut : goal.returns-in-Err-clause-cut
returns-in-Err-clause-cut g c told since w handed e may gives s =
    cut_in_here (seat_since g.N.Node.state g.N.Node.steps g.L.Log.facts since) _ w (BeginToStop c.args.at e) statuses.OutOfMemory
    (restart_event c.args.at, by_itself e, (stop_and_open c.args.at (restart_event c.args.at), refl))
    (still (seat_since g.N.Node.state g.N.Node.steps g.L.Log.facts since) _ _ handed w s)

pub returns-in-Ok-restart-clause-returned : goal.returns-in-Ok-restart-clause-returned
returns-in-Ok-restart-clause-returned g c told since w handed e may gives s = record {
  again = c.in-Ok-restart.ensures.started told since w 0 handed e may gives s;
  closes = c.in-Ok.ensures.closed;
}

pub returns-in-Err-restart-clause-cut : goal.returns-in-Err-restart-clause-cut
returns-in-Err-restart-clause-cut g c told since w handed e may gives s =
    cut_in_stop (seat_since g.N.Node.state g.N.Node.steps g.L.Log.facts since) _ w (BeginToStop c.args.at e) c.in-Err-restart.e _ c.of.ensures
    (c.in-Err-restart.ensures.failed told since w 0 handed e may gives s)

pub returns-in-Err-restart-clause-open : goal.returns-in-Err-restart-clause-open
returns-in-Err-restart-clause-open g c = λ disk.
    but_for_disks c.in-Err-restart.e _ _ c.of.ensures (λ is. disk (ap Err is)) c.in-Err-restart.ensures.«open»

pub returns-in-Err-clause-noted : goal.returns-in-Err-clause-noted
returns-in-Err-clause-noted g c shown = no_more (g.K.Sink.noted c.args.out.now)
