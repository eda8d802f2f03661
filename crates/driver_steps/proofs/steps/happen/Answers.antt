use Rattle.std.proofs.Common.{map}
use Rattle.driver_steps.specs.Moves.{cost_in}
use Rattle.driver_steps.specs.Seats.{left_of, seat_since}
use Rattle.driver_steps.specs.Together.{hosted}
use Rattle.driver_steps.proofs.Costs.{step_less, told_less}
use Rattle.driver_steps.proofs.Moves.{cut_short, faults_queued, open_queued, queue_full, queued, told_full, told_queued}
use Rattle.driver_steps.proofs.Queued.{sends_by}
use Rattle.driver_steps.proofs.steps.happen.Goals as goal

pub returns-in-Ok-clause-moved : goal.returns-in-Ok-clause-moved
returns-in-Ok-clause-moved g c since w next handed s =
    let h = c.in-Ok.ensures.stepped since w s.nodes s.crashes in
    queued (seat_since g.N.Node.state g.N.Node.steps g.L.Log.facts since)
    (λ m. g.N.Mail.Mail.letter m) (hosted g.K.Sink.tells g.L.Log.facts since (g.K.Sink.noted c.args.out.now) c.args.seats.now.items) (hosted g.K.Sink.tells g.L.Log.facts since (g.K.Sink.noted c.step_node.new.out) c.step_node.new.seats.items) handed w next c.args.at
    (g.N.Node.meaning c.args.input) c.args.network.now c.queue.new.network s c.queue.result c.in-Ok.outputs.mail c.in-Ok.outputs.replies h
    (c.in-Ok.ensures.counted since w h.end s.counted h.moves) c.queue.ensures.waiting c.queue.ensures.replies

pub returns-in-Ok-clause-cut : goal.returns-in-Ok-clause-cut
returns-in-Ok-clause-cut g c since w next handed s =
    queue_full (seat_since g.N.Node.state g.N.Node.steps g.L.Log.facts since)
    (λ m. g.N.Mail.Mail.letter m) (hosted g.K.Sink.tells g.L.Log.facts since (g.K.Sink.noted c.args.out.now) c.args.seats.now.items) (hosted g.K.Sink.tells g.L.Log.facts since (g.K.Sink.noted c.step_node.new.out) c.step_node.new.seats.items) handed w next c.args.at
    (g.N.Node.meaning c.args.input) c.args.network.now c.queue.new.network s c.queue.result (map (λ message. g.N.Mail.Mail.letter message) c.in-Ok.outputs.mail) c.in-Ok.outputs.replies c.queue.new.network.replies.items
    (c.in-Ok.ensures.stepped since w s.nodes s.crashes) c.queue.ensures.cause c.queue.ensures.missing

pub returns-in-Ok-clause-open : goal.returns-in-Ok-clause-open
returns-in-Ok-clause-open g c = open_queued c.queue.result _ c.in-Ok.ensures.«open»

pub returns-in-Ok-clause-faults : goal.returns-in-Ok-clause-faults
returns-in-Ok-clause-faults g c = faults_queued c.queue.result _ _ c.queue.ensures.cause c.in-Ok.ensures.faults

pub returns-in-Ok-clause-falls : goal.returns-in-Ok-clause-falls
returns-in-Ok-clause-falls g c =
    step_less (λ m. g.N.Mail.Mail.letter m) c.args.network.now.waiting.items c.queue.new.network.waiting.items
    (left_of g.N.Node.steps c.args.seats.now.items) (left_of g.N.Node.steps c.step_node.new.seats.items) (cost_in (g.N.Node.meaning c.args.input)) c.queue.result c.in-Ok.ensures.falls

pub returns-in-Err-Disk-clause-cut : goal.returns-in-Err-Disk-clause-cut
returns-in-Err-Disk-clause-cut g c since w next handed s =
    cut_short (seat_since g.N.Node.state g.N.Node.steps g.L.Log.facts since)
    (λ m. g.N.Mail.Mail.letter m) (hosted g.K.Sink.tells g.L.Log.facts since (g.K.Sink.noted c.args.out.now) c.args.seats.now.items) _ handed w next c.args.at
    (g.N.Node.meaning c.args.input) c.args.network.now c.args.network.now s _ (rw c.in-Err-Disk.field-0-is at (c.in-Err-Disk.ensures.failed since w s.nodes s.crashes))

pub returns-in-Err-Steps-clause-moved : goal.returns-in-Err-Steps-clause-moved
returns-in-Err-Steps-clause-moved g c since w next handed s =
    told_queued (seat_since g.N.Node.state g.N.Node.steps g.L.Log.facts since)
    (λ m. g.N.Mail.Mail.letter m) (hosted g.K.Sink.tells g.L.Log.facts since (g.K.Sink.noted c.args.out.now) c.args.seats.now.items) (hosted g.K.Sink.tells g.L.Log.facts since (g.K.Sink.noted c.step_node.new.out) c.step_node.new.seats.items) handed w next c.args.at
    (g.N.Node.meaning c.args.input) c.args.network.now c.queue-in-Err-Steps.new.network s c.queue-in-Err-Steps.result c.in-Err-Steps.told.mail c.in-Err-Steps.told.replies
    (rw c.in-Err-Steps.field-0-is at (c.in-Err-Steps.ensures.missed since w s.nodes s.counted s.crashes)) (rw c.in-Err-Steps.field-0-is at c.in-Err-Steps.ensures.silent)
    c.queue-in-Err-Steps.ensures.waiting c.queue-in-Err-Steps.ensures.replies

pub returns-in-Err-Steps-clause-cut : goal.returns-in-Err-Steps-clause-cut
returns-in-Err-Steps-clause-cut g c since w next handed s =
    told_full (seat_since g.N.Node.state g.N.Node.steps g.L.Log.facts since)
    (λ m. g.N.Mail.Mail.letter m) (hosted g.K.Sink.tells g.L.Log.facts since (g.K.Sink.noted c.args.out.now) c.args.seats.now.items) (hosted g.K.Sink.tells g.L.Log.facts since (g.K.Sink.noted c.step_node.new.out) c.step_node.new.seats.items) handed w next c.args.at
    (g.N.Node.meaning c.args.input) c.args.network.now c.queue-in-Err-Steps.new.network s c.queue-in-Err-Steps.result (map (λ message. g.N.Mail.Mail.letter message) c.in-Err-Steps.told.mail) c.in-Err-Steps.told.replies c.queue-in-Err-Steps.new.network.replies.items
    (rw c.in-Err-Steps.field-0-is at (c.in-Err-Steps.ensures.missed since w s.nodes s.counted s.crashes)) (rw c.in-Err-Steps.field-0-is at c.in-Err-Steps.ensures.silent)
    c.queue-in-Err-Steps.ensures.cause c.queue-in-Err-Steps.ensures.missing

pub returns-in-Err-Steps-clause-open : goal.returns-in-Err-Steps-clause-open
returns-in-Err-Steps-clause-open g c = open_queued c.queue-in-Err-Steps.result _ (rw c.in-Err-Steps.field-0-is at c.in-Err-Steps.ensures.«open»)

pub returns-in-Err-Steps-clause-faults : goal.returns-in-Err-Steps-clause-faults
returns-in-Err-Steps-clause-faults g c =
    faults_queued c.queue-in-Err-Steps.result _ _ c.queue-in-Err-Steps.ensures.cause (rw c.in-Err-Steps.field-0-is at c.in-Err-Steps.ensures.faults)

pub returns-in-Err-Steps-clause-falls : goal.returns-in-Err-Steps-clause-falls
returns-in-Err-Steps-clause-falls g c =
    told_less (λ m. g.N.Mail.Mail.letter m) c.args.network.now.waiting.items c.queue-in-Err-Steps.new.network.waiting.items
    (left_of g.N.Node.steps c.args.seats.now.items) (left_of g.N.Node.steps c.step_node.new.seats.items) (cost_in (g.N.Node.meaning c.args.input)) c.in-Err-Steps.told.mail
    c.queue-in-Err-Steps.result c.queue-in-Err-Steps.ensures.waiting (rw c.in-Err-Steps.field-0-is at c.in-Err-Steps.ensures.falls_err)

pub returns-in-Err-Memory-clause-moved : goal.returns-in-Err-Memory-clause-moved
returns-in-Err-Memory-clause-moved g c since w next handed s =
    told_queued (seat_since g.N.Node.state g.N.Node.steps g.L.Log.facts since)
    (λ m. g.N.Mail.Mail.letter m) (hosted g.K.Sink.tells g.L.Log.facts since (g.K.Sink.noted c.args.out.now) c.args.seats.now.items) (hosted g.K.Sink.tells g.L.Log.facts since (g.K.Sink.noted c.step_node.new.out) c.step_node.new.seats.items) handed w next c.args.at
    (g.N.Node.meaning c.args.input) c.args.network.now c.queue-in-Err-Memory.new.network s c.queue-in-Err-Memory.result c.in-Err-Memory.told.mail c.in-Err-Memory.told.replies
    (rw c.in-Err-Memory.field-0-is at (c.in-Err-Memory.ensures.missed since w s.nodes s.counted s.crashes)) (rw c.in-Err-Memory.field-0-is at c.in-Err-Memory.ensures.silent)
    c.queue-in-Err-Memory.ensures.waiting c.queue-in-Err-Memory.ensures.replies

pub returns-in-Err-Memory-clause-cut : goal.returns-in-Err-Memory-clause-cut
returns-in-Err-Memory-clause-cut g c since w next handed s =
    told_full (seat_since g.N.Node.state g.N.Node.steps g.L.Log.facts since)
    (λ m. g.N.Mail.Mail.letter m) (hosted g.K.Sink.tells g.L.Log.facts since (g.K.Sink.noted c.args.out.now) c.args.seats.now.items) (hosted g.K.Sink.tells g.L.Log.facts since (g.K.Sink.noted c.step_node.new.out) c.step_node.new.seats.items) handed w next c.args.at
    (g.N.Node.meaning c.args.input) c.args.network.now c.queue-in-Err-Memory.new.network s c.queue-in-Err-Memory.result (map (λ message. g.N.Mail.Mail.letter message) c.in-Err-Memory.told.mail) c.in-Err-Memory.told.replies c.queue-in-Err-Memory.new.network.replies.items
    (rw c.in-Err-Memory.field-0-is at (c.in-Err-Memory.ensures.missed since w s.nodes s.counted s.crashes)) (rw c.in-Err-Memory.field-0-is at c.in-Err-Memory.ensures.silent)
    c.queue-in-Err-Memory.ensures.cause c.queue-in-Err-Memory.ensures.missing

pub returns-in-Err-Memory-clause-open : goal.returns-in-Err-Memory-clause-open
returns-in-Err-Memory-clause-open g c = open_queued c.queue-in-Err-Memory.result _ (rw c.in-Err-Memory.field-0-is at c.in-Err-Memory.ensures.«open»)

pub returns-in-Err-Memory-clause-faults : goal.returns-in-Err-Memory-clause-faults
returns-in-Err-Memory-clause-faults g c =
    faults_queued c.queue-in-Err-Memory.result _ _ c.queue-in-Err-Memory.ensures.cause (rw c.in-Err-Memory.field-0-is at c.in-Err-Memory.ensures.faults)

pub returns-in-Err-Memory-clause-falls : goal.returns-in-Err-Memory-clause-falls
returns-in-Err-Memory-clause-falls g c =
    told_less (λ m. g.N.Mail.Mail.letter m) c.args.network.now.waiting.items c.queue-in-Err-Memory.new.network.waiting.items
    (left_of g.N.Node.steps c.args.seats.now.items) (left_of g.N.Node.steps c.step_node.new.seats.items) (cost_in (g.N.Node.meaning c.args.input)) c.in-Err-Memory.told.mail
    c.queue-in-Err-Memory.result c.queue-in-Err-Memory.ensures.waiting (rw c.in-Err-Memory.field-0-is at c.in-Err-Memory.ensures.falls_err)

pub returns-in-Ok-clause-sends : goal.returns-in-Ok-clause-sends
returns-in-Ok-clause-sends g c =
    sends_by c.args.network.now.waiting.items c.queue.new.network.waiting.items c.in-Ok.outputs.mail c.queue.result c.queue.ensures.waiting

pub returns-in-Err-Steps-clause-sends : goal.returns-in-Err-Steps-clause-sends
returns-in-Err-Steps-clause-sends g c =
    sends_by c.args.network.now.waiting.items c.queue-in-Err-Steps.new.network.waiting.items c.in-Err-Steps.told.mail c.queue-in-Err-Steps.result c.queue-in-Err-Steps.ensures.waiting

pub returns-in-Err-Memory-clause-sends : goal.returns-in-Err-Memory-clause-sends
returns-in-Err-Memory-clause-sends g c =
    sends_by c.args.network.now.waiting.items c.queue-in-Err-Memory.new.network.waiting.items c.in-Err-Memory.told.mail c.queue-in-Err-Memory.result c.queue-in-Err-Memory.ensures.waiting
