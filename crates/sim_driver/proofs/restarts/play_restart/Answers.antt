use Rattle.std.proofs.Common.{refl, arith}
use Rattle.std.specs.Prelude.{None}
use Rattle.driver_steps.proofs.DiskNotes.{no_more}
use Rattle.driver_steps.specs.Seats.{seat_since}
use Rattle.driver_steps.proofs.Seats.{held_len}
use Rattle.script_lines.specs.Lines.{restart_line}
use Rattle.sim_driver.specs.LineOutcomes.{line_unplayed}
use Rattle.sim_driver.specs.Plays.{no_node_of_restart}
use Rattle.sim_driver.specs.Scripts.{script_view}
use Rattle.sim_driver.proofs.Faults.{still}
use Rattle.sim_driver.proofs.Stopped.{failed, returned, stops_alone}
use Rattle.sim_driver.proofs.restarts.play_restart.Goals as goal

pub returns-then-node-len-clause-stops : goal.returns-then-node-len-clause-stops
returns-then-node-len-clause-stops g c told since w handed may s =
    let count = held_len (seat_since g.N.Node.state g.N.Node.steps g.L.Log.facts since) c.args.seats.now.items w.nodes s.nodes in
    line_unplayed (no_node_of_restart c.args.node (omega (arith, count, c.args.seats.now.ok.0, c.len.ensures, c.if-node-len.true)))
    (still (seat_since g.N.Node.state g.N.Node.steps g.L.Log.facts since) _ _ handed w s)

pub returns-in-Ok-clause-played : goal.returns-in-Ok-clause-played
returns-in-Ok-clause-played g c told since w handed may s =
    let old = script_view c.args.script.now in
    returned (seat_since g.N.Node.state g.N.Node.steps g.L.Log.facts since) _ w old (restart_line c.args.node) c.args.node None old.delivered
    (stops_alone w old c.args.node) _ handed old _ _ refl (c.in-Ok.ensures.returned told since w handed None may tt s)

pub returns-in-Err-clause-stops : goal.returns-in-Err-clause-stops
returns-in-Err-clause-stops g c told since w handed may s =
    let old = script_view c.args.script.now in
    failed (seat_since g.N.Node.state g.N.Node.steps g.L.Log.facts since) _ w old (restart_line c.args.node) c.args.node None old.delivered
    (stops_alone w old c.args.node) c.in-Err.status c.in-Err.ensures.other (c.in-Err.ensures.cut told since w handed None may tt s)

pub returns-then-node-len-clause-noted : goal.returns-then-node-len-clause-noted
returns-then-node-len-clause-noted g c shown = no_more (g.K.Sink.noted c.args.out.now)
