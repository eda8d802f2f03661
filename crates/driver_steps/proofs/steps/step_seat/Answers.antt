use Rattle.std.proofs.Common.{map}
use Rattle.node_traits.specs.Faults.{cause_of}
use Rattle.driver_steps.proofs.Missed.{open_still, seat_missed, told_cheap, told_silent}
use Rattle.driver_steps.proofs.Stepping.{fault_told, seat_failed, seat_stepped, unchanged_by}
use Rattle.driver_steps.proofs.steps.step_seat.Goals as goal

pub returns-in-Ok-clause-stepped : goal.returns-in-Ok-clause-stepped
returns-in-Ok-clause-stepped g c since w at stands =
    seat_stepped g.N.Node.state g.N.Node.steps g.L.Log.facts since w at c.args.seat.now (record { node = c.step.new.self; log = c.step.new.log })
    (g.N.Node.meaning c.args.input) stands (map (λ message. g.N.Mail.Mail.letter message) c.in-Ok.outputs.mail) c.in-Ok.outputs.replies c.in-Ok.ensures.goes
    c.in-Ok.ensures.counted c.in-Ok.ensures.done
    (λ held. c.in-Ok.ensures.kept held)

pub returns-in-Err-clause-failed : goal.returns-in-Err-clause-failed
returns-in-Err-clause-failed g c since w at stands =
    seat_failed g.N.Node.state g.N.Node.steps g.L.Log.facts since w at c.args.seat.now (record { node = c.step.new.self; log = c.step.new.log })
    (g.N.Node.meaning c.args.input) stands (cause_of c.in-Err.e) c.in-Err.ensures.last c.in-Err.ensures.counted_err c.in-Err.ensures.failed

pub returns-in-Err-clause-unchanged : goal.returns-in-Err-clause-unchanged
returns-in-Err-clause-unchanged g c =
    unchanged_by g.N.Node.state g.N.Node.steps g.L.Log.facts (cause_of c.in-Err.e) (g.N.Node.meaning c.args.input) c.args.seat.now
    (record { node = c.step.new.self; log = c.step.new.log }) c.in-Err.ensures.failed

pub returns-in-Err-clause-faults : goal.returns-in-Err-clause-faults
returns-in-Err-clause-faults g c =
    fault_told g.N.Node.state g.N.Node.steps g.L.Log.facts g.L.Log.facts.fault_count (g.N.Node.meaning c.args.input) (cause_of c.in-Err.e) c.args.seat.now
    (record { node = c.step.new.self; log = c.step.new.log }) c.in-Err.ensures.failed c.in-Err.ensures.cause c.step.ensures.later

pub returns-in-Err-clause-missed : goal.returns-in-Err-clause-missed
returns-in-Err-clause-missed g c since w at stands counted =
    seat_missed g.N.Node.state g.N.Node.steps g.L.Log.facts since w at c.args.seat.now (record { node = c.step.new.self; log = c.step.new.log })
    (g.N.Node.meaning c.args.input) stands (λ message. g.N.Mail.Mail.letter message) c.in-Err.e counted c.in-Err.ensures.last c.in-Err.ensures.counted_err
    c.in-Err.ensures.failed c.in-Err.ensures.missed

pub returns-in-Err-clause-cheap : goal.returns-in-Err-clause-cheap
returns-in-Err-clause-cheap g c =
    told_cheap g.N.Node.state g.N.Node.steps g.L.Log.facts (λ message. g.N.Mail.Mail.letter message) (g.N.Node.meaning c.args.input) c.args.seat.now c.in-Err.e
    c.in-Err.ensures.missed

pub returns-in-Err-clause-silent : goal.returns-in-Err-clause-silent
returns-in-Err-clause-silent g c =
    told_silent g.N.Node.state g.N.Node.steps g.L.Log.facts (λ message. g.N.Mail.Mail.letter message) (g.N.Node.meaning c.args.input) c.args.seat.now c.in-Err.e
    c.in-Err.ensures.missed

pub returns-in-Err-clause-open : goal.returns-in-Err-clause-open
returns-in-Err-clause-open g c =
    open_still g.N.Node.state g.N.Node.steps g.L.Log.facts (g.N.Node.meaning c.args.input) c.args.seat.now
    (record { node = c.step.new.self; log = c.step.new.log }) (cause_of c.in-Err.e) c.in-Err.ensures.failed c.requires.«open»
