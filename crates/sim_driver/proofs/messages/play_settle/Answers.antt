use Rattle.std.specs.Prelude.{option_map}
use Rattle.driver_steps.specs.Seats.{seat_since}
use Rattle.script_lines.specs.Lines.{settle_line}
use Rattle.sim_driver.specs.Plays.{IsPartOfWhole, IsPartOfSettling, part_of_settle}
use Rattle.sim_driver.specs.Scripts.{script_view}
use Rattle.sim_driver.proofs.Faults.{cut_as}
use Rattle.sim_driver.proofs.PlayedLines.{settle_played, stops_either}
use Rattle.sim_driver.proofs.messages.play_settle.Goals as goal

pub returns-in-Ok-clause-played : goal.returns-in-Ok-clause-played
returns-in-Ok-clause-played g c since w handed known s =
    let h = rw c.next-first.ensures.same at (c.in-Ok.ensures.settled since w handed (rw c.next-first.ensures.same known) s) in
    settle_played (seat_since g.N.Node.state g.N.Node.steps g.L.Log.facts since) _ _ handed w
    (script_view c.args.script.now) (option_map (λ k. k.now) c.args.except) c.settle_but.new.delivered h

pub returns-in-Err-clause-stops : goal.returns-in-Err-clause-stops
returns-in-Err-clause-stops g c since w handed known s =
    stops_either (seat_since g.N.Node.state g.N.Node.steps g.L.Log.facts since) _ w
    (settle_line (option_map (λ k. k.now) c.args.except)) (script_view c.args.script.now) c.in-Err.status
    c.in-Err.ensures.other
    (cut_as (seat_since g.N.Node.state g.N.Node.steps g.L.Log.facts since) _ w
    (IsPartOfSettling (option_map (λ k. k.now) c.args.except) w c.args.script.now.delivered)
    (IsPartOfWhole w (script_view c.args.script.now) (settle_line (option_map (λ k. k.now) c.args.except))) c.in-Err.status
    (λ events are. part_of_settle (option_map (λ k. k.now) c.args.except) events are)
    (rw c.next-first.ensures.same at (c.in-Err.ensures.cut since w handed (rw c.next-first.ensures.same known) s)))
