use Rattle.std.proofs.Common.{◌∷◌, [], ap, arith}
use Rattle.std.specs.Prelude.{Err}
use Rattle.node_model.specs.World.{moment_event, stands}
use Rattle.driver_steps.specs.Seats.{seat_since}
use Rattle.driver_steps.specs.Together.{hosted}
use Rattle.driver_steps.specs.Worlds.{network_view}
use Rattle.driver_steps.specs.Moves.{BeginWith}
use Rattle.driver_steps.proofs.Seats.{held_len}
use Rattle.pipe_driver.proofs.Serving.{but_for_disks}
use Rattle.script_lines.specs.Lines.{moment_line}
use Rattle.sim_driver.specs.Plays.{IsPartOfWhole, no_node_of_moment, part_of_moment}
use Rattle.sim_driver.specs.LineOutcomes.{stops_unplayed}
use Rattle.sim_driver.specs.Scripts.{script_view}
use Rattle.sim_driver.proofs.Faults.{cut_behind, one_of_two, still}
use Rattle.sim_driver.proofs.PlayedLines.{moment_played, stops_either}
use Rattle.driver_steps.proofs.DiskNotes.{no_more}
use Rattle.sim_driver.proofs.events.play_moment.Goals as goal

pub returns-then-node-len-clause-stops : goal.returns-then-node-len-clause-stops
returns-then-node-len-clause-stops g c since w handed s =
    let count = held_len (seat_since g.N.Node.state g.N.Node.steps g.L.Log.facts since)
    c.args.seats.now.items w.nodes s.nodes in
    stops_unplayed (no_node_of_moment c.args.node c.args.moment (omega (arith, count, c.args.seats.now.ok.0, c.len.ensures, c.if-node-len.true)))
    (still (seat_since g.N.Node.state g.N.Node.steps g.L.Log.facts since) _ _ handed w s)

pub returns-in-Ok-clause-played : goal.returns-in-Ok-clause-played
returns-in-Ok-clause-played g c since w handed s =
    moment_played (seat_since g.N.Node.state g.N.Node.steps g.L.Log.facts since)
    (hosted g.K.Sink.tells g.L.Log.facts since (g.K.Sink.noted c.give_moment.new.out) c.give_moment.new.seats.items)
    (network_view (λ m. g.N.Mail.Mail.letter m) c.give_moment.new.network) handed w (script_view c.args.script.now) c.args.node c.args.moment
    (c.in-Ok.ensures.given since w 0 handed s)

pub returns-in-Err-clause-stops : goal.returns-in-Err-clause-stops
returns-in-Err-clause-stops g c since w handed s =
    stops_either (seat_since g.N.Node.state g.N.Node.steps g.L.Log.facts since) _ w
    (moment_line c.args.node c.args.moment) (script_view c.args.script.now) c.of.result (one_of_two c.in-Err.e _ c.of.ensures)
    (cut_behind (seat_since g.N.Node.state g.N.Node.steps g.L.Log.facts since) _ _ handed w [] w
    (λ events. BeginWith events (moment_event c.args.node c.args.moment ∷ []))
    (IsPartOfWhole w (script_view c.args.script.now) (moment_line c.args.node c.args.moment)) c.in-Err.e _ c.of.ensures (stands w)
    (λ more first. part_of_moment c.args.node c.args.moment more first)
    (c.in-Err.ensures.stopped since w 0 handed s))

pub returns-in-Err-clause-open : goal.returns-in-Err-clause-open
returns-in-Err-clause-open g c = λ disk. but_for_disks c.in-Err.e _ _ c.of.ensures (λ is. disk (ap Err is)) c.in-Err.ensures.«open»

pub returns-then-node-len-clause-noted : goal.returns-then-node-len-clause-noted
returns-then-node-len-clause-noted g c shown = no_more (g.K.Sink.noted c.args.out.now)
