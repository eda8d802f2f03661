use Rattle.std.proofs.Common.{◌≡◌, ℕ, refl, subst, arith, ◌∙◌}
use Rattle.std.specs.Prelude.{vec_len}
use Rattle.node_model.specs.Schedule.{openings}
use Rattle.node_model.specs.Letters.{opened_input}
use Rattle.driver_steps.specs.Seats.{seat_since}
use Rattle.driver_steps.specs.Together.{hosted}
use Rattle.driver_steps.specs.Worlds.{network_view}
use Rattle.driver_steps.specs.Moves.{HasRun}
use Rattle.driver_steps.proofs.Costs.{is_no_request}
use Rattle.driver_steps.proofs.DiskNotes.{more_then, no_more}
use Rattle.driver_steps.proofs.Runs.{opened_more, opened_stopped, run_none}
use Rattle.driver_steps.proofs.rounds.open_all.Goals as goal

pub nodes-init : goal.nodes-init
nodes-init g c = record {
  len = refl;
  are_open = c.requires;
  faults = refl;
  places = refl;
  held = refl;
  sink = refl;
  noted = λ shown. no_more (g.K.Sink.noted c.args.out.now);
  run = λ since w next handed s. run_none
      (seat_since g.N.Node.state g.N.Node.steps g.L.Log.facts since) _ _ handed w next s;
}

pub nodes-preserved : goal.nodes-preserved
nodes-preserved g c = record {
  len = c.in-Ok.ensures.len ∙ c.nodes.invariant.len;
  are_open = c.in-Ok.ensures.«open»;
  faults = c.in-Ok.ensures.faults ∙ c.nodes.invariant.faults;
  places = c.in-Ok.ensures.places ∙ c.nodes.invariant.places;
  held = c.in-Ok.ensures.held ∙ c.nodes.invariant.held;
  sink = c.in-Ok.ensures.sink ∙ c.nodes.invariant.sink;
  noted = λ shown. more_then (g.K.Sink.noted c.args.out.now) (g.K.Sink.noted c.nodes.out) (g.K.Sink.noted c.happen.new.out) (c.nodes.invariant.noted shown)
      (c.in-Ok.ensures.noted shown);
  run = λ since w next handed s.
      opened_more (seat_since g.N.Node.state g.N.Node.steps g.L.Log.facts since)
      _ _ _ _ handed w next c.nodes.at _
      (c.nodes.invariant.run since w next handed s) c.opened.ensures
      (c.in-Ok.ensures.moved since (c.nodes.invariant.run since w next handed s).end next handed (c.nodes.invariant.run since w next handed s).stands);
}

pub returns-in-Err-clause-stopped : goal.returns-in-Err-clause-stopped
returns-in-Err-clause-stopped g c since w next handed s =
    opened_stopped (seat_since g.N.Node.state g.N.Node.steps g.L.Log.facts since)
    _ _ _ _ handed w next c.nodes.at
    (vec_len c.args.seats.now) _ c.in-Err.e (omega (arith, c.nodes-test.true, c.len-count.ensures))
    (c.nodes.invariant.run since w next handed s) c.opened.ensures
    (c.in-Err.ensures.cut since (c.nodes.invariant.run since w next handed s).end next handed (c.nodes.invariant.run since w next handed s).stands)

pub returns-clause-opened : goal.returns-clause-opened
returns-clause-opened g c since w next handed s =
    let all : c.nodes.at ≡ vec_len c.args.seats.now = omega (arith, c.nodes.auto.at-end, c.nodes-test.false, c.len-count.ensures) in
    subst (λ (n : ℕ). HasRun (seat_since g.N.Node.state g.N.Node.steps g.L.Log.facts since)
    (hosted g.K.Sink.tells g.L.Log.facts since (g.K.Sink.noted c.nodes.out) c.nodes.seats.items)
    (network_view (λ m. g.N.Mail.Mail.letter m) c.nodes.network) handed w next (openings 0 n)) all
    (c.nodes.invariant.run since w next handed s)

pub returns-in-Err-clause-noted : goal.returns-in-Err-clause-noted
returns-in-Err-clause-noted g c shown =
    more_then (g.K.Sink.noted c.args.out.now) (g.K.Sink.noted c.nodes.out) (g.K.Sink.noted c.happen.new.out) (c.nodes.invariant.noted shown)
    (c.in-Err.ensures.noted shown)

pub happen-requires-clause-request : goal.happen-requires-clause-request
happen-requires-clause-request g c = is_no_request (g.N.Node.meaning c.opened.result) opened_input c.opened.ensures tt
