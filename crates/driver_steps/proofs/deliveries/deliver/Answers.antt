use Rattle.std.proofs.Common.{◌∙◌, map}
use Rattle.node_model.specs.Letters.{letter_input}
use Rattle.driver_steps.specs.Seats.{left_of, seat_since}
use Rattle.driver_steps.specs.Together.{hosted}
use Rattle.driver_steps.specs.Worlds.{network_view}
use Rattle.driver_steps.proofs.Costs.{delivered_less, is_no_request, lost_costs}
use Rattle.driver_steps.proofs.DiskNotes.{no_more}
use Rattle.driver_steps.proofs.Queued.{sends_none}
use Rattle.driver_steps.proofs.Seats.{held_len}
use Rattle.driver_steps.proofs.Runs.{delivered, delivery_stopped, lost}
use Rattle.driver_steps.proofs.deliveries.deliver.Goals as goal

pub returns-then-at-len-clause-delivered : goal.returns-then-at-len-clause-delivered
returns-then-at-len-clause-delivered g c since w next which handed s got =
    lost (seat_since g.N.Node.state g.N.Node.steps g.L.Log.facts since) (hosted g.K.Sink.tells g.L.Log.facts since (g.K.Sink.noted c.args.out.now) c.args.seats.now.items)
    (network_view (λ m. g.N.Mail.Mail.letter m) c.args.network.now) handed w next which
    (g.N.Mail.Mail.letter c.args.message).receiver c.len.result c.to-at.result.0
    (held_len (seat_since g.N.Node.state g.N.Node.steps g.L.Log.facts since)
    c.args.seats.now.items w.nodes s.nodes)
    (c.len.ensures ∙ c.args.seats.now.ok.0) c.to-at.ensures c.if-at-len.true s

pub returns-in-Ok-clause-delivered : goal.returns-in-Ok-clause-delivered
returns-in-Ok-clause-delivered g c since w next which handed s got =
    delivered (seat_since g.N.Node.state g.N.Node.steps g.L.Log.facts since)
    _ _ handed w next which c.to-at.result.0
    (g.N.Mail.Mail.letter c.args.message) _ got
    c.prepare.ensures c.to-at.ensures (c.in-Ok.ensures.moved since w next handed s)

pub returns-in-Err-clause-stopped : goal.returns-in-Err-clause-stopped
returns-in-Err-clause-stopped g c since w next which handed s got =
    delivery_stopped (seat_since g.N.Node.state g.N.Node.steps g.L.Log.facts since)
    _ _ handed w which c.to-at.result.0
    (g.N.Mail.Mail.letter c.args.message) _ c.in-Err.e got
    c.prepare.ensures c.to-at.ensures (c.in-Err.ensures.cut since w next handed s)

pub returns-then-at-len-clause-noted : goal.returns-then-at-len-clause-noted
returns-then-at-len-clause-noted g c shown = no_more (g.K.Sink.noted c.args.out.now)

pub returns-then-at-len-clause-falls : goal.returns-then-at-len-clause-falls
returns-then-at-len-clause-falls g c =
    lost_costs (left_of g.N.Node.steps c.args.seats.now.items) (map (λ m. g.N.Mail.Mail.letter m) c.args.network.now.waiting.items)
    (g.N.Mail.Mail.letter c.args.message).body

pub returns-in-Ok-clause-falls : goal.returns-in-Ok-clause-falls
returns-in-Ok-clause-falls g c =
    delivered_less (left_of g.N.Node.steps c.args.seats.now.items) (left_of g.N.Node.steps c.happen.new.seats.items)
    (map (λ m. g.N.Mail.Mail.letter m) c.args.network.now.waiting.items) (map (λ m. g.N.Mail.Mail.letter m) c.happen.new.network.waiting.items)
    (g.N.Node.meaning c.prepare.result) (g.N.Mail.Mail.letter c.args.message) c.prepare.ensures c.in-Ok.ensures.falls

pub happen-requires-clause-request : goal.happen-requires-clause-request
happen-requires-clause-request g c =
    is_no_request (g.N.Node.meaning c.prepare.result) (letter_input (g.N.Mail.Mail.letter c.args.message)) c.prepare.ensures tt

pub returns-then-at-len-clause-sends : goal.returns-then-at-len-clause-sends
returns-then-at-len-clause-sends g c = sends_none c.args.network.now.waiting.items
