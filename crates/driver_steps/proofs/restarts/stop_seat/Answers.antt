use Rattle.std.proofs.Common.{refl}
use Rattle.driver_steps.specs.declared.seat.Seat.{Seat}
use Rattle.driver_steps.proofs.StoppedNodes.{again_failed, again_started, broken_by, given_in_step, given_short, stopped_alone}
use Rattle.driver_steps.proofs.restarts.stop_seat.Goals as goal

pub returns-in-Ok-clause-started : goal.returns-in-Ok-clause-started
returns-in-Ok-clause-started g c =
    let mid : Seat g.row.N.Denot g.row.L.Denot = record { node = c.step.new.self; log = c.step.new.log } in
    again_started g.N.Node.state g.N.Node.steps g.L.Log.facts _ c.args.seat.now _ _ (g.O.Opens.part c.args.opener.now c.args.at) _ mid c.start_again.new.seat refl refl
    (given_in_step g.N.Node.state g.N.Node.steps g.L.Log.facts (λ i. g.N.Node.meaning i) c.args.input c.in-Some.input c.in-Some.is c.args.seat.now mid c.start_again.new.seat
    c.in-Ok.ensures.goes _ _ c.in-Ok.ensures.done c.in-Ok.ensures.counted c.start_again.ensures.reread c.start_again.ensures.counted)
    c.start_again.ensures.reread c.start_again.ensures.opened

pub returns-in-Ok-clause-failed : goal.returns-in-Ok-clause-failed
returns-in-Ok-clause-failed g c =
    let mid : Seat g.row.N.Denot g.row.L.Denot = record { node = c.step.new.self; log = c.step.new.log } in
    again_failed g.N.Node.state g.N.Node.steps g.L.Log.facts _ c.args.seat.now _ _ _ c.start_again.new.seat refl refl
    (given_in_step g.N.Node.state g.N.Node.steps g.L.Log.facts (λ i. g.N.Node.meaning i) c.args.input c.in-Some.input c.in-Some.is c.args.seat.now mid c.start_again.new.seat
    c.in-Ok.ensures.goes _ _ c.in-Ok.ensures.done c.in-Ok.ensures.counted c.start_again.ensures.reread c.start_again.ensures.counted)

pub returns-in-Err-Steps-clause-started : goal.returns-in-Err-Steps-clause-started
returns-in-Err-Steps-clause-started g c =
    let mid : Seat g.row.N.Denot g.row.L.Denot = record { node = c.step.new.self; log = c.step.new.log } in
    again_started g.N.Node.state g.N.Node.steps g.L.Log.facts _ c.args.seat.now _ _ (g.O.Opens.part c.args.opener.now c.args.at) _ mid c.start_again-in-Err-Steps.new.seat refl refl
    (stopped_alone g.N.Node.state g.N.Node.steps g.L.Log.facts _ c.args.seat.now mid c.start_again-in-Err-Steps.new.seat
    (rw c.in-Err-Steps.field-0-is at c.in-Err-Steps.ensures.failed).1 (rw c.in-Err-Steps.field-0-is at c.in-Err-Steps.ensures.counted_err)
    c.start_again-in-Err-Steps.ensures.reread c.start_again-in-Err-Steps.ensures.counted)
    c.start_again-in-Err-Steps.ensures.reread c.start_again-in-Err-Steps.ensures.opened

pub returns-in-Err-Steps-clause-failed : goal.returns-in-Err-Steps-clause-failed
returns-in-Err-Steps-clause-failed g c =
    let mid : Seat g.row.N.Denot g.row.L.Denot = record { node = c.step.new.self; log = c.step.new.log } in
    again_failed g.N.Node.state g.N.Node.steps g.L.Log.facts _ c.args.seat.now _ _ _ c.start_again-in-Err-Steps.new.seat refl refl
    (stopped_alone g.N.Node.state g.N.Node.steps g.L.Log.facts _ c.args.seat.now mid c.start_again-in-Err-Steps.new.seat
    (rw c.in-Err-Steps.field-0-is at c.in-Err-Steps.ensures.failed).1 (rw c.in-Err-Steps.field-0-is at c.in-Err-Steps.ensures.counted_err)
    c.start_again-in-Err-Steps.ensures.reread c.start_again-in-Err-Steps.ensures.counted)

pub returns-in-Some-clause-started : goal.returns-in-Some-clause-started
returns-in-Some-clause-started g c =
    let mid : Seat g.row.N.Denot g.row.L.Denot = record { node = c.step.new.self; log = c.step.new.log } in
    again_started g.N.Node.state g.N.Node.steps g.L.Log.facts _ c.args.seat.now _ _ (g.O.Opens.part c.args.opener.now c.args.at) _ mid c.start_again-in-Err-Memory.new.seat refl refl
    (given_short g.N.Node.state g.N.Node.steps g.L.Log.facts (λ i. g.N.Node.meaning i) c.args.input c.in-Some.input c.in-Some.is c.args.seat.now mid c.start_again-in-Err-Memory.new.seat
    (rw c.in-Err-Memory.field-0-is at c.in-Err-Memory.ensures.last) (rw c.in-Err-Memory.field-0-is at c.in-Err-Memory.ensures.failed).1
    (rw c.in-Err-Memory.field-0-is at c.in-Err-Memory.ensures.counted_err) c.start_again-in-Err-Memory.ensures.reread c.start_again-in-Err-Memory.ensures.counted)
    c.start_again-in-Err-Memory.ensures.reread c.start_again-in-Err-Memory.ensures.opened

pub returns-in-Some-clause-failed : goal.returns-in-Some-clause-failed
returns-in-Some-clause-failed g c =
    let mid : Seat g.row.N.Denot g.row.L.Denot = record { node = c.step.new.self; log = c.step.new.log } in
    again_failed g.N.Node.state g.N.Node.steps g.L.Log.facts _ c.args.seat.now _ _ _ c.start_again-in-Err-Memory.new.seat refl refl
    (given_short g.N.Node.state g.N.Node.steps g.L.Log.facts (λ i. g.N.Node.meaning i) c.args.input c.in-Some.input c.in-Some.is c.args.seat.now mid c.start_again-in-Err-Memory.new.seat
    (rw c.in-Err-Memory.field-0-is at c.in-Err-Memory.ensures.last) (rw c.in-Err-Memory.field-0-is at c.in-Err-Memory.ensures.failed).1
    (rw c.in-Err-Memory.field-0-is at c.in-Err-Memory.ensures.counted_err) c.start_again-in-Err-Memory.ensures.reread c.start_again-in-Err-Memory.ensures.counted)

pub returns-in-Err-Disk-clause-failed : goal.returns-in-Err-Disk-clause-failed
returns-in-Err-Disk-clause-failed g c =
    let mid : Seat g.row.N.Denot g.row.L.Denot = record { node = c.step.new.self; log = c.step.new.log } in
    broken_by g.N.Node.state g.N.Node.steps g.L.Log.facts (λ i. g.N.Node.meaning i) c.args.input c.in-Some.input c.in-Some.is c.args.seat.now mid mid
    (rw c.in-Err-Disk.field-0-is at c.in-Err-Disk.ensures.last) (rw c.in-Err-Disk.field-0-is at c.in-Err-Disk.ensures.failed)

pub returns-clause-started : goal.returns-clause-started
returns-clause-started g c =
    again_started g.N.Node.state g.N.Node.steps g.L.Log.facts _ c.args.seat.now _ _ (g.O.Opens.part c.args.opener.now c.args.at) _ c.args.seat.now c.start_again-in-None.new.seat refl refl
    (stopped_alone g.N.Node.state g.N.Node.steps g.L.Log.facts _ c.args.seat.now c.args.seat.now c.start_again-in-None.new.seat refl refl c.start_again-in-None.ensures.reread c.start_again-in-None.ensures.counted)
    c.start_again-in-None.ensures.reread c.start_again-in-None.ensures.opened

pub returns-clause-failed : goal.returns-clause-failed
returns-clause-failed g c =
    again_failed g.N.Node.state g.N.Node.steps g.L.Log.facts _ c.args.seat.now _ _ _ c.start_again-in-None.new.seat refl refl
    (stopped_alone g.N.Node.state g.N.Node.steps g.L.Log.facts _ c.args.seat.now c.args.seat.now c.start_again-in-None.new.seat refl refl c.start_again-in-None.ensures.reread c.start_again-in-None.ensures.counted)
