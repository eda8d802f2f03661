use Rattle.std.proofs.Common.{◌≡◌, ◌∙◌, ◌<◌, ◌+◌, ℕ, ap, arith, length, refl, subst}
use Rattle.node_model.specs.World.{IsRouter}
use Rattle.driver_steps.specs.Seats.{seat_view}
use Rattle.driver_steps.proofs.Seats.{held_len}
use Rattle.pipe_driver.specs.Schedules.{MayServe}
use Rattle.cluster_service.specs.Arguments.{first_router_of}
use Rattle.cluster_service.proofs.drive.drive.Goals as goal

pub returns-in-Pipe-clause-driven : goal.returns-in-Pipe-clause-driven
returns-in-Pipe-clause-driven g c =
    rw c.in-Pipe.is (λ asked told first may parts are counted.
    let router : c.first_router-first_router.result ≡ 1 + c.in-Pipe.shards = c.first_router-first_router.ensures ∙ ap first_router_of c.in-Pipe.is in
    let long = held_len (seat_view g.N.Node.state g.N.Node.steps g.L.Log.facts) c.args.seats.now.items first.nodes are in
    let inside : 1 + c.in-Pipe.shards + 0 < length first.nodes = omega (arith, long, c.requires.at, c.args.seats.now.ok) in
    let there : 1 + c.in-Pipe.shards + 0 ≡ 1 + c.in-Pipe.shards = omega arith in
    let serves : MayServe first (1 + c.in-Pipe.shards) = record {
      begins = may.begins;
      there = subst (λ (n : ℕ). IsRouter first.nodes n) there (may.routers 0 inside);
    } in
    (rw router at c.pipe.ensures.piped) asked first serves are counted)

pub returns-in-Sim-clause-driven : goal.returns-in-Sim-clause-driven
returns-in-Sim-clause-driven g c =
    rw c.in-Sim.is (λ asked told first may parts are counted.
    let router : c.first_router-first_router.result ≡ 1 + c.in-Sim.shards = c.first_router-first_router.ensures ∙ ap first_router_of c.in-Sim.is in
    ((rw router at c.simulate.ensures.simulated) asked told first may parts are counted, refl))
