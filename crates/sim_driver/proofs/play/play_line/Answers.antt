use Rattle.driver_steps.specs.Seats.{seat_since}
use Rattle.script_lines.specs.Meanings.{meaning_of}
use Rattle.sim_driver.specs.LineOutcomes.{bytes_refused, says_none}
use Rattle.sim_driver.specs.Scripts.{script_view}
use Rattle.sim_driver.proofs.Faults.{still}
use Rattle.sim_driver.proofs.PlayedLines.{bytes_stop, bytes_unread}
use Rattle.driver_steps.proofs.DiskNotes.{no_more}
use Rattle.sim_driver.proofs.play.play_line.Goals as goal

pub returns-in-Ok-play_said-clause-played : goal.returns-in-Ok-play_said-clause-played
returns-in-Ok-play_said-clause-played g c asks told since w handed may router known s = record {
  line = meaning_of c.in-Ok.said;
  says = c.in-Ok.ensures.says;
  played = c.in-Ok-play_said.ensures.played asks told since w handed may router known s;
}

pub returns-in-Err-clause-stops : goal.returns-in-Err-clause-stops
returns-in-Err-clause-stops g c asks told since w handed may router known s =
    bytes_stop (seat_since g.N.Node.state g.N.Node.steps g.L.Log.facts since) _ w
    c.args.line.now (meaning_of c.in-Ok.said) (script_view c.args.script.now) c.in-Err.status c.in-Ok.ensures.says
    (c.in-Err.ensures.stops asks told since w handed may router known s)

pub returns-in-Err-Refused-clause-stops : goal.returns-in-Err-Refused-clause-stops
returns-in-Err-Refused-clause-stops g c asks told since w handed may router known s =
    bytes_refused (says_none (λ other. c.in-Err-Refused.ensures.refused (cc c.in-Err-Refused.field-0-is) other))
    (still (seat_since g.N.Node.state g.N.Node.steps g.L.Log.facts since) _ _ handed w s)

pub returns-in-Err-Memory-clause-stops : goal.returns-in-Err-Memory-clause-stops
returns-in-Err-Memory-clause-stops g c asks told since w handed may router known s =
    bytes_unread (seat_since g.N.Node.state g.N.Node.steps g.L.Log.facts since) _ w
    c.args.line.now (script_view c.args.script.now)
    (still (seat_since g.N.Node.state g.N.Node.steps g.L.Log.facts since) _ _ handed w s)

pub returns-in-Err-Refused-clause-noted : goal.returns-in-Err-Refused-clause-noted
returns-in-Err-Refused-clause-noted g c shown = no_more (g.K.Sink.noted c.args.out.now)

pub returns-in-Err-Memory-clause-noted : goal.returns-in-Err-Memory-clause-noted
returns-in-Err-Memory-clause-noted g c shown = no_more (g.K.Sink.noted c.args.out.now)
