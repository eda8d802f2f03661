use Rattle.node_model.specs.Letters.{moment_input}
use Rattle.driver_steps.specs.Seats.{seat_since}
use Rattle.driver_steps.specs.Together.{hosted}
use Rattle.driver_steps.specs.Worlds.{network_view}
use Rattle.driver_steps.proofs.Costs.{is_no_request}
use Rattle.driver_steps.proofs.Moments.{moment_passed, moment_stopped}
use Rattle.driver_steps.proofs.rounds.give_moment.Goals as goal

pub returns-in-Ok-clause-given : goal.returns-in-Ok-clause-given
returns-in-Ok-clause-given g c since w next handed s =
    moment_passed (seat_since g.N.Node.state g.N.Node.steps g.L.Log.facts since) (hosted g.K.Sink.tells g.L.Log.facts since (g.K.Sink.noted c.happen.new.out) c.happen.new.seats.items)
    (network_view (λ m. g.N.Mail.Mail.letter m) c.happen.new.network) handed w next c.args.at c.args.moment
    (g.N.Node.meaning c.moment.result) c.moment.ensures (c.in-Ok.ensures.moved since w next handed s)

pub returns-in-Err-clause-stopped : goal.returns-in-Err-clause-stopped
returns-in-Err-clause-stopped g c since w next handed s =
    moment_stopped (seat_since g.N.Node.state g.N.Node.steps g.L.Log.facts since) (hosted g.K.Sink.tells g.L.Log.facts since (g.K.Sink.noted c.happen.new.out) c.happen.new.seats.items)
    c.happen.new.network.replies.items handed w c.args.at c.args.moment
    (g.N.Node.meaning c.moment.result) c.in-Err.e c.moment.ensures (c.in-Err.ensures.cut since w next handed s)

pub happen-requires-clause-request : goal.happen-requires-clause-request
happen-requires-clause-request g c = is_no_request (g.N.Node.meaning c.moment.result) (moment_input c.args.moment) c.moment.ensures tt
