use Rattle.std.proofs.Common.{rules, ◌≡◌, ◌<◌, ◌^◌, refl, arith, ◌∙◌}
use Rattle.std.specs.Prelude.{None}
use Rattle.driver_steps.specs.Seats.{left_of, seat_since}
use Rattle.driver_steps.specs.Together.{hosted}
use Rattle.driver_steps.proofs.Costs.{less_left}
use Rattle.driver_steps.proofs.DiskNotes.{more_then, no_more}
use Rattle.driver_steps.proofs.Runs.{settled_at_end, settling_none, settling_step, settling_stopped}
use Rattle.driver_steps.proofs.deliveries.settle.Goals as goal

pub messages-init : goal.messages-init
messages-init g c = record {
  len = refl;
  are_open = c.requires;
  faults = refl;
  places = refl;
  held = refl;
  sink = refl;
  noted = λ shown. no_more (g.K.Sink.noted c.args.out.now);
  run = λ since w next handed s. settling_none
      (seat_since g.N.Node.state g.N.Node.steps g.L.Log.facts since) _ _ handed w next s;
}

pub messages-preserved : goal.messages-preserved
messages-preserved g c = record {
  len = c.in-Ok.ensures.len ∙ c.messages.invariant.len;
  are_open = c.in-Ok.ensures.«open»;
  faults = c.in-Ok.ensures.faults ∙ c.messages.invariant.faults;
  places = c.in-Ok.ensures.places ∙ c.messages.invariant.places;
  held = c.in-Ok.ensures.held ∙ c.messages.invariant.held;
  sink = c.in-Ok.ensures.sink ∙ c.messages.invariant.sink;
  noted = λ shown. more_then (g.K.Sink.noted c.args.out.now) (g.K.Sink.noted c.messages.out) (g.K.Sink.noted c.deliver.new.out) (c.messages.invariant.noted shown)
      (c.in-Ok.ensures.noted shown);
  run = λ since w next handed s.
      settling_step (seat_since g.N.Node.state g.N.Node.steps g.L.Log.facts since)
      (λ m. g.N.Mail.Mail.letter m) (hosted g.K.Sink.tells g.L.Log.facts since (g.K.Sink.noted c.messages.out) c.messages.seats.items) (hosted g.K.Sink.tells g.L.Log.facts since (g.K.Sink.noted c.deliver.new.out) c.deliver.new.seats.items) _ handed w next c.in-Some.message c.messages.network
      (record { waiting = c.pop_front.new.self; replies = c.messages.network.replies })
      (c.messages.invariant.run since w next handed s) c.in-Some.ensures.items refl
      (λ v n which stands got. c.in-Ok.ensures.delivered since v n which handed stands got);
}

pub messages-smaller : goal.messages-smaller
messages-smaller g c =
    let fits : c.deliver.new.network.waiting.len < 2 ^ 64 = omega (arith, c.deliver.new.network.waiting.small.0, c.deliver.new.network.waiting.small.1) in
    less_left (λ m. g.N.Mail.Mail.letter m) (left_of g.N.Node.steps c.messages.seats.items) (left_of g.N.Node.steps c.deliver.new.seats.items)
    c.in-Some.message c.messages.network.waiting.items c.pop_front.new.self.items c.deliver.new.network.waiting.items c.in-Ok.ensures.falls
    c.in-Some.ensures.items (omega (arith, c.deliver.new.network.waiting.ok.0, fits))

pub returns-in-Err-clause-stopped : goal.returns-in-Err-clause-stopped
returns-in-Err-clause-stopped g c since w next handed s =
    settling_stopped (seat_since g.N.Node.state g.N.Node.steps g.L.Log.facts since)
    (λ m. g.N.Mail.Mail.letter m) (hosted g.K.Sink.tells g.L.Log.facts since (g.K.Sink.noted c.messages.out) c.messages.seats.items) (hosted g.K.Sink.tells g.L.Log.facts since (g.K.Sink.noted c.deliver.new.out) c.deliver.new.seats.items) _ handed w next c.in-Some.message c.messages.network
    (record { waiting = c.pop_front.new.self; replies = c.messages.network.replies }) c.in-Err.e
    (c.messages.invariant.run since w next handed s) c.in-Some.ensures.items refl
    (λ v n which stands got. c.in-Err.ensures.stopped since v n which handed stands got)

pub returns-clause-settled : goal.returns-clause-settled
returns-clause-settled g c since w next handed s =
    let none : c.pop_front.result ≡ None = search (rules, c.in_default.is) in
    settled_at_end (seat_since g.N.Node.state g.N.Node.steps g.L.Log.facts since)
    (λ m. g.N.Mail.Mail.letter m) (hosted g.K.Sink.tells g.L.Log.facts since (g.K.Sink.noted c.messages.out) c.messages.seats.items) handed w next
    c.messages.network (record { waiting = c.pop_front.new.self; replies = c.messages.network.replies }) c.pop_front.result
    (c.messages.invariant.run since w next handed s) none c.pop_front.ensures.items c.pop_front.ensures.cases c.pop_front.new.self.ok.0 refl

pub returns-in-Err-clause-noted : goal.returns-in-Err-clause-noted
returns-in-Err-clause-noted g c shown =
    more_then (g.K.Sink.noted c.args.out.now) (g.K.Sink.noted c.messages.out) (g.K.Sink.noted c.deliver.new.out) (c.messages.invariant.noted shown)
    (c.in-Err.ensures.noted shown)
