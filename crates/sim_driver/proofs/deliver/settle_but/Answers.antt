use Rattle.std.proofs.Common.{◌∙◌, refl, arith}
use Rattle.std.specs.Prelude.{option_map}
use Rattle.std.proofs.lemmas.List.{length-map}
use Rattle.driver_steps.specs.Seats.{left_of, seat_since}
use Rattle.driver_steps.proofs.DiskNotes.{more_then, no_more}
use Rattle.driver_steps.specs.Together.{hosted}
use Rattle.driver_steps.specs.Worlds.{network_view}
use Rattle.sim_driver.proofs.Deliveries.{settling_cut, settling_end, settling_none, settling_step}
use Rattle.sim_driver.proofs.Falls.{less_to_do}
use Rattle.sim_driver.proofs.deliver.settle_but.Goals as goal

pub messages-init : goal.messages-init
messages-init g c = record {
  len = refl;
  are_open = c.requires.«open»;
  faults = refl;
  places = refl;
  held = refl;
  sink = refl;
  noted = λ shown. no_more (g.K.Sink.noted c.args.out.now);
  run = λ since w handed known s.
      settling_none (seat_since g.N.Node.state g.N.Node.steps g.L.Log.facts since) _
      (network_view (λ m. g.N.Mail.Mail.letter m) c.args.network.now) handed w (option_map (λ k. k.now) c.args.except) c.args.delivered.now c.args.first
      c.requires.first known s;
}

pub messages-preserved : goal.messages-preserved
messages-preserved g c = record {
  len = c.deliver_unless.ensures.len ∙ c.messages.invariant.len;
  are_open = c.in-Ok.ensures.«open» (λ e. cc);
  faults = c.deliver_unless.ensures.disk_fault.1 (λ e. cc) ∙ c.messages.invariant.faults;
  places = c.deliver_unless.ensures.places ∙ c.messages.invariant.places;
  held = c.deliver_unless.ensures.held ∙ c.messages.invariant.held;
  sink = c.deliver_unless.ensures.sink ∙ c.messages.invariant.sink;
  noted = λ shown. more_then (g.K.Sink.noted c.args.out.now) (g.K.Sink.noted c.messages.out) (g.K.Sink.noted c.deliver_unless.new.out)
      (c.messages.invariant.noted shown)
      (c.deliver_unless.ensures.noted shown);
  run = λ since w handed known s.
      let so_far = c.messages.invariant.run since w handed known s in
      settling_step (seat_since g.N.Node.state g.N.Node.steps g.L.Log.facts since) _
      _ handed w (option_map (λ k. k.now) c.args.except) c.args.delivered.now c.messages.delivered c.messages.at
      (hosted g.K.Sink.tells g.L.Log.facts since (g.K.Sink.noted c.messages.out) c.messages.seats.items)
      (network_view (λ m. g.N.Mail.Mail.letter m) c.messages.network) _ so_far
      (c.in-Ok.ensures.delivered since so_far.end handed so_far.stands);
}

pub messages-smaller : goal.messages-smaller
messages-smaller g c =
    let after = c.deliver_unless.new.network.waiting in
    less_to_do (λ m. g.N.Mail.Mail.letter m) (left_of g.N.Node.steps c.messages.seats.items) (left_of g.N.Node.steps c.deliver_unless.new.seats.items)
    c.messages.at c.messages.network.waiting.items after.items c.in-Ok.ensures.falls (omega (arith, after.ok.0, after.small.0, after.small.1))

pub returns-in-Err-clause-cut : goal.returns-in-Err-clause-cut
returns-in-Err-clause-cut g c since w handed known s =
    let so_far = c.messages.invariant.run since w handed known s in
    settling_cut (seat_since g.N.Node.state g.N.Node.steps g.L.Log.facts since)
    (hosted g.K.Sink.tells g.L.Log.facts since (g.K.Sink.noted c.messages.out) c.messages.seats.items) _
    (network_view (λ m. g.N.Mail.Mail.letter m) c.messages.network) handed w (option_map (λ k. k.now) c.args.except) c.args.delivered.now
    c.messages.delivered c.messages.at c.in-Err.status so_far
    (c.in-Err.ensures.cut since so_far.end handed so_far.stands)

pub returns-clause-settled : goal.returns-clause-settled
returns-clause-settled g c since w handed known s =
    settling_end (seat_since g.N.Node.state g.N.Node.steps g.L.Log.facts since)
    (hosted g.K.Sink.tells g.L.Log.facts since (g.K.Sink.noted c.messages.out) c.messages.seats.items)
    (network_view (λ m. g.N.Mail.Mail.letter m) c.messages.network) handed w (option_map (λ k. k.now) c.args.except) c.args.delivered.now
    c.messages.delivered c.messages.at
    (c.messages.invariant.run since w handed known s)
    (omega (
      arith,
      c.messages-test.false,
      c.len.ensures,
      c.messages.network.waiting.ok.0,
      length-map c.messages.network.waiting.items (λ m. g.N.Mail.Mail.letter m),
    ))

pub returns-in-Err-clause-noted : goal.returns-in-Err-clause-noted
returns-in-Err-clause-noted g c shown =
    more_then (g.K.Sink.noted c.args.out.now) (g.K.Sink.noted c.messages.out) (g.K.Sink.noted c.deliver_unless.new.out) (c.messages.invariant.noted shown)
    (c.deliver_unless.ensures.noted shown)
