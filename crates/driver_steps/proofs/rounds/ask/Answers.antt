use Rattle.std.proofs.Common.{◌≡◌, ℤ, map, subst, sym, w32, to_z, of_z}
use Rattle.std.proofs.lemmas.Int.{to_z-of_z}
use Rattle.node_model.specs.Letters.{client_input}
use Rattle.node_traits.specs.Faults.{cause_of}
use Rattle.node_traits.specs.declared.outputs.NotTaken.{NotTaken}
use Rattle.node_traits.specs.declared.outputs.NotTaken.TheVariants.{Memory}
use Rattle.driver_steps.specs.Moves.{IsCutShort}
use Rattle.driver_steps.specs.Seats.{seat_since}
use Rattle.driver_steps.specs.Together.{hosted}
use Rattle.driver_steps.specs.Worlds.{network_view}
use Rattle.driver_steps.proofs.Moves.{cut_short, found_no_room, moved}
use Rattle.driver_steps.proofs.Runs.{ask_stopped, asked}
use Rattle.driver_steps.proofs.rounds.ask.Goals as goal

pub returns-in-Ok-take-clause-asked : goal.returns-in-Ok-take-clause-asked
returns-in-Ok-take-clause-asked g c since w next handed s router =
    let same : to_z w32 (of_z w32 c.args.number) ≡ c.args.number = to_z-of_z w32 c.args.number (assumption c.ranges) in
    let view = seat_since g.N.Node.state g.N.Node.steps g.L.Log.facts since in
    let first = hosted g.K.Sink.tells g.L.Log.facts since (g.K.Sink.noted c.args.out.now) c.args.seats.now.items in
    let last = hosted g.K.Sink.tells g.L.Log.facts since (g.K.Sink.noted c.step_node.new.out) c.step_node.new.seats.items in
    let h = c.in-Ok.ensures.stepped since w s.nodes s.crashes in
    asked view last (network_view (λ m. g.N.Mail.Mail.letter m) c.take.new.self) handed w next c.args.at c.args.link c.args.number
    (g.N.Node.asks c.args.request) (g.N.Node.meaning c.client.result) router
    (subst (λ (z : ℤ). g.N.Node.meaning c.client.result ≡ client_input c.args.link z (g.N.Node.asks c.args.request)) same c.client.ensures)
    (moved view (λ m. g.N.Mail.Mail.letter m) first last handed w next c.args.at (g.N.Node.meaning c.client.result) c.args.network.now c.take.new.self s
    c.in-Ok.outputs.mail c.in-Ok.outputs.replies h (c.in-Ok.ensures.counted since w h.end s.counted h.moves) c.in-Ok-take.ensures.waiting
    c.in-Ok-take.ensures.replies)

pub returns-in-Err-take-clause-stopped : goal.returns-in-Err-take-clause-stopped
returns-in-Err-take-clause-stopped g c since w next handed s router =
    let same : to_z w32 (of_z w32 c.args.number) ≡ c.args.number = to_z-of_z w32 c.args.number (assumption c.ranges) in
    let view = seat_since g.N.Node.state g.N.Node.steps g.L.Log.facts since in
    let first = hosted g.K.Sink.tells g.L.Log.facts since (g.K.Sink.noted c.args.out.now) c.args.seats.now.items in
    let last = hosted g.K.Sink.tells g.L.Log.facts since (g.K.Sink.noted c.step_node.new.out) c.step_node.new.seats.items in
    ask_stopped view last c.take.new.self.replies.items handed w c.args.at c.args.link c.args.number
    (g.N.Node.asks c.args.request) (g.N.Node.meaning c.client.result) Memory router
    (subst (λ (z : ℤ). g.N.Node.meaning c.client.result ≡ client_input c.args.link z (g.N.Node.asks c.args.request)) same c.client.ensures)
    (found_no_room view (λ m. g.N.Mail.Mail.letter m) first last handed w next c.args.at (g.N.Node.meaning c.client.result) c.args.network.now c.take.new.self s
    (map (λ message. g.N.Mail.Mail.letter message) c.in-Ok.outputs.mail) c.in-Ok.outputs.replies c.take.new.self.replies.items
    (c.in-Ok.ensures.stepped since w s.nodes s.crashes) c.in-Err-take.ensures.missing)

pub returns-in-Err-clause-stopped : goal.returns-in-Err-clause-stopped
returns-in-Err-clause-stopped g c since w next handed s router =
    let same : to_z w32 (of_z w32 c.args.number) ≡ c.args.number = to_z-of_z w32 c.args.number (assumption c.ranges) in
    let view = seat_since g.N.Node.state g.N.Node.steps g.L.Log.facts since in
    let first = hosted g.K.Sink.tells g.L.Log.facts since (g.K.Sink.noted c.args.out.now) c.args.seats.now.items in
    let last = hosted g.K.Sink.tells g.L.Log.facts since (g.K.Sink.noted c.step_node.new.out) c.step_node.new.seats.items in
    ask_stopped view last c.args.network.now.replies.items handed w c.args.at c.args.link c.args.number
    (g.N.Node.asks c.args.request) (g.N.Node.meaning c.client.result) c.cause.result router
    (subst (λ (z : ℤ). g.N.Node.meaning c.client.result ≡ client_input c.args.link z (g.N.Node.asks c.args.request)) same c.client.ensures)
    (subst (λ (f : NotTaken). IsCutShort view last c.args.network.now.replies.items handed w c.args.at (g.N.Node.meaning c.client.result) f)
    (sym c.cause.ensures)
    (cut_short view (λ m. g.N.Mail.Mail.letter m) first last handed w next c.args.at (g.N.Node.meaning c.client.result) c.args.network.now c.args.network.now s
    (cause_of c.in-Err.e) (c.in-Err.ensures.failed since w s.nodes s.crashes)))

pub returns-in-Err-clause-open : goal.returns-in-Err-clause-open
returns-in-Err-clause-open g c = rw c.cause.ensures c.in-Err.ensures.«open»

pub returns-in-Err-clause-faults : goal.returns-in-Err-clause-faults
returns-in-Err-clause-faults g c = rw c.cause.ensures c.in-Err.ensures.faults
