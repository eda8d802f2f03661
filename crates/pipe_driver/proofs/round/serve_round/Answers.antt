use Rattle.std.proofs.Common.{◌≡◌, ◌∙◌, ℤ, refl, subst, w32, to_z, of_z}
use Rattle.std.specs.Prelude.{vec_len}
use Rattle.std.proofs.lemmas.Int.{to_z-of_z}
use Rattle.driver_steps.specs.Seats.{seat_since}
use Rattle.driver_steps.specs.Together.{hosted}
use Rattle.driver_steps.specs.Worlds.{network_view}
use Rattle.driver_steps.specs.Moves.{HasStopped}
use Rattle.driver_steps.proofs.DiskNotes.{more_then}
use Rattle.driver_steps.proofs.Seats.{held_len}
use Rattle.pipe_driver.specs.Schedules.{HasServed, IsPart, round_of}
use Rattle.pipe_driver.proofs.Rounds.{router_asked, round_served, stopped_in_moments, stopped_in_asking, stopped_in_deliveries}
use Rattle.pipe_driver.proofs.round.serve_round.Goals as goal

pub returns-in-Err-clause-stopped : goal.returns-in-Err-clause-stopped
returns-in-Err-clause-stopped g c since first rounds events w next handed some pipes s =
    stopped_in_moments (seat_since g.N.Node.state g.N.Node.steps g.L.Log.facts since)
    _ _ handed w (vec_len c.args.seats.now)
    (round_of c.args.router c.args.moment c.args.number (g.N.Node.asks c.args.request)) _ (c.in-Err.ensures.stopped since w next handed s)

pub returns-in-Err-ask-clause-stopped : goal.returns-in-Err-ask-clause-stopped
returns-in-Err-ask-clause-stopped g c since first rounds events w next handed some pipes s =
    let same : to_z w32 (of_z w32 c.args.number) ≡ c.args.number = to_z-of_z w32 c.args.number (assumption c.ranges) in
    let as_many = c.args.seats.now.ok.0
    ∙ held_len (seat_since g.N.Node.state g.N.Node.steps g.L.Log.facts since)
    c.args.seats.now.items w.nodes s.nodes in
    let r = c.in-Ok.ensures.given since w next handed s in
    let router = router_asked (seat_since g.N.Node.state g.N.Node.steps g.L.Log.facts since)
    handed first rounds events w next
    (vec_len c.args.seats.now) (round_of c.args.router c.args.moment c.args.number (g.N.Node.asks c.args.request)) c.args.router some pipes as_many refl r.end r.run in
    subst (λ (z : ℤ). HasStopped
    (seat_since g.N.Node.state g.N.Node.steps g.L.Log.facts since) (hosted g.K.Sink.tells g.L.Log.facts since (g.K.Sink.noted c.ask.new.out) c.ask.new.seats.items)
    c.ask.new.network.replies.items handed w
    (IsPart (vec_len c.args.seats.now) (round_of c.args.router c.args.moment z (g.N.Node.asks c.args.request))) c.in-Err-ask.e) same
    (stopped_in_asking (seat_since g.N.Node.state g.N.Node.steps g.L.Log.facts since)
    _ _ handed w (vec_len c.args.seats.now)
    (round_of c.args.router c.args.moment (to_z w32 (of_z w32 c.args.number)) (g.N.Node.asks c.args.request)) _ r.end r.run
    (c.in-Err-ask.ensures.stopped since r.end next handed r.stands router))

pub returns-in-Err-settle-clause-stopped : goal.returns-in-Err-settle-clause-stopped
returns-in-Err-settle-clause-stopped g c since first rounds events w next handed some pipes s =
    let same : to_z w32 (of_z w32 c.args.number) ≡ c.args.number = to_z-of_z w32 c.args.number (assumption c.ranges) in
    let as_many = c.args.seats.now.ok.0
    ∙ held_len (seat_since g.N.Node.state g.N.Node.steps g.L.Log.facts since)
    c.args.seats.now.items w.nodes s.nodes in
    let r = c.in-Ok.ensures.given since w next handed s in
    let router = router_asked (seat_since g.N.Node.state g.N.Node.steps g.L.Log.facts since)
    handed first rounds events w next
    (vec_len c.args.seats.now) (round_of c.args.router c.args.moment c.args.number (g.N.Node.asks c.args.request)) c.args.router some pipes as_many refl r.end r.run in
    let a = c.in-Ok-ask.ensures.asked since r.end next handed r.stands router in
    subst (λ (z : ℤ). HasStopped
    (seat_since g.N.Node.state g.N.Node.steps g.L.Log.facts since) (hosted g.K.Sink.tells g.L.Log.facts since (g.K.Sink.noted c.settle.new.out) c.settle.new.seats.items)
    c.settle.new.network.replies.items handed w
    (IsPart (vec_len c.args.seats.now) (round_of c.args.router c.args.moment z (g.N.Node.asks c.args.request))) c.in-Err-settle.e) same
    (stopped_in_deliveries (seat_since g.N.Node.state g.N.Node.steps g.L.Log.facts since)
    _ _ handed w (vec_len c.args.seats.now)
    (round_of c.args.router c.args.moment (to_z w32 (of_z w32 c.args.number)) (g.N.Node.asks c.args.request)) _ r.end a.end r.run a.happens
    (c.in-Err-settle.ensures.stopped since a.end next handed a.stands))

pub returns-in-Ok-settle-clause-served : goal.returns-in-Ok-settle-clause-served
returns-in-Ok-settle-clause-served g c since first rounds events w next handed some pipes s =
    let same : to_z w32 (of_z w32 c.args.number) ≡ c.args.number = to_z-of_z w32 c.args.number (assumption c.ranges) in
    let as_many = c.args.seats.now.ok.0
    ∙ held_len (seat_since g.N.Node.state g.N.Node.steps g.L.Log.facts since)
    c.args.seats.now.items w.nodes s.nodes in
    let r = c.in-Ok.ensures.given since w next handed s in
    let router = router_asked (seat_since g.N.Node.state g.N.Node.steps g.L.Log.facts since)
    handed first rounds events w next
    (vec_len c.args.seats.now) (round_of c.args.router c.args.moment c.args.number (g.N.Node.asks c.args.request)) c.args.router some pipes as_many refl r.end r.run in
    let a = c.in-Ok-ask.ensures.asked since r.end next handed r.stands router in
    subst (λ (z : ℤ). HasServed
    (seat_since g.N.Node.state g.N.Node.steps g.L.Log.facts since) (hosted g.K.Sink.tells g.L.Log.facts since (g.K.Sink.noted c.settle.new.out) c.settle.new.seats.items)
    (network_view (λ m. g.N.Mail.Mail.letter m) c.settle.new.network) handed w next (round_of c.args.router c.args.moment z (g.N.Node.asks c.args.request))) same
    (round_served (seat_since g.N.Node.state g.N.Node.steps g.L.Log.facts since)
    handed first rounds events w next
    (vec_len c.args.seats.now) (round_of c.args.router c.args.moment (to_z w32 (of_z w32 c.args.number)) (g.N.Node.asks c.args.request))
    c.args.router some pipes as_many refl _ _ r.end a.end r.run a.happens
    (c.in-Ok-settle.ensures.settled since a.end next handed a.stands))

pub returns-in-Err-ask-clause-noted : goal.returns-in-Err-ask-clause-noted
returns-in-Err-ask-clause-noted g c shown =
    more_then (g.K.Sink.noted c.args.out.now) (g.K.Sink.noted c.give_moments.new.out) (g.K.Sink.noted c.ask.new.out) (c.give_moments.ensures.noted shown)
    (c.ask.ensures.noted shown)

pub returns-in-Err-settle-clause-noted : goal.returns-in-Err-settle-clause-noted
returns-in-Err-settle-clause-noted g c shown =
    more_then (g.K.Sink.noted c.args.out.now) (g.K.Sink.noted c.ask.new.out) (g.K.Sink.noted c.settle.new.out)
    (more_then (g.K.Sink.noted c.args.out.now) (g.K.Sink.noted c.give_moments.new.out) (g.K.Sink.noted c.ask.new.out) (c.give_moments.ensures.noted shown)
    (c.ask.ensures.noted shown)) (c.settle.ensures.noted shown)

pub returns-in-Ok-settle-clause-noted : goal.returns-in-Ok-settle-clause-noted
returns-in-Ok-settle-clause-noted g c shown =
    more_then (g.K.Sink.noted c.args.out.now) (g.K.Sink.noted c.ask.new.out) (g.K.Sink.noted c.settle.new.out)
    (more_then (g.K.Sink.noted c.args.out.now) (g.K.Sink.noted c.give_moments.new.out) (g.K.Sink.noted c.ask.new.out) (c.give_moments.ensures.noted shown)
    (c.ask.ensures.noted shown)) (c.settle.ensures.noted shown)
