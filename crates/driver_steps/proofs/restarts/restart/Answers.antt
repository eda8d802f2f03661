use Rattle.std.proofs.Common.{subst, sym}
use Rattle.node_model.specs.Letters.{Input, opened_input}
use Rattle.driver_steps.specs.Moves.{HasMoved, IsCutShort}
use Rattle.driver_steps.specs.Seats.{seat_since}
use Rattle.driver_steps.specs.Together.{hosted}
use Rattle.driver_steps.specs.Worlds.{network_view}
use Rattle.driver_steps.proofs.Costs.{is_no_request}
use Rattle.driver_steps.proofs.DiskNotes.{more_then}
use Rattle.driver_steps.proofs.Stops.{not_opened, opened_again, stands_started}
use Rattle.driver_steps.proofs.restarts.restart.Goals as goal

pub returns-in-Ok-happen-clause-started : goal.returns-in-Ok-happen-clause-started
returns-in-Ok-happen-clause-started g c told since w next handed e may gives stands =
    let view = seat_since g.N.Node.state g.N.Node.steps g.L.Log.facts since in
    let first = hosted g.K.Sink.tells g.L.Log.facts since (g.K.Sink.noted c.args.out.now) c.args.seats.now.items in
    let mid = hosted g.K.Sink.tells g.L.Log.facts since (g.K.Sink.noted c.stop_node.new.out) c.stop_node.new.seats.items in
    let last = hosted g.K.Sink.tells g.L.Log.facts since (g.K.Sink.noted c.happen.new.out) c.happen.new.seats.items in
    let network = network_view (λ m. g.N.Mail.Mail.letter m) c.args.network.now in
    let after = network_view (λ m. g.N.Mail.Mail.letter m) c.happen.new.network in
    let h = c.in-Ok.ensures.started told since w e may gives stands.nodes stands.counted stands.crashes in
    let m = c.in-Ok-happen.ensures.moved since h.started next handed (stands_started view mid last handed w next c.args.at e h network first stands) in
    opened_again view mid last handed w next c.args.at e h after
    (subst (λ (i : Input). HasMoved view last after handed h.started next c.args.at i) c.opened.ensures m)

pub returns-in-Err-clause-failed : goal.returns-in-Err-clause-failed
returns-in-Err-clause-failed g c told since w next handed e may gives stands =
    c.in-Err.ensures.failed told since w e may gives stands.nodes stands.crashes

pub returns-in-Err-happen-clause-failed : goal.returns-in-Err-happen-clause-failed
returns-in-Err-happen-clause-failed g c told since w next handed e may gives stands =
    let view = seat_since g.N.Node.state g.N.Node.steps g.L.Log.facts since in
    let first = hosted g.K.Sink.tells g.L.Log.facts since (g.K.Sink.noted c.args.out.now) c.args.seats.now.items in
    let mid = hosted g.K.Sink.tells g.L.Log.facts since (g.K.Sink.noted c.stop_node.new.out) c.stop_node.new.seats.items in
    let last = hosted g.K.Sink.tells g.L.Log.facts since (g.K.Sink.noted c.happen.new.out) c.happen.new.seats.items in
    let network = network_view (λ m. g.N.Mail.Mail.letter m) c.args.network.now in
    let h = c.in-Ok.ensures.started told since w e may gives stands.nodes stands.counted stands.crashes in
    let x = c.in-Err-happen.ensures.cut since h.started next handed (stands_started view mid last handed w next c.args.at e h network first stands) in
    not_opened view mid last handed w next c.args.at e h c.happen.new.network.replies.items c.in-Err-happen.e
    (subst (λ (i : Input). IsCutShort view last c.happen.new.network.replies.items handed h.started c.args.at i c.in-Err-happen.e) c.opened.ensures x)

pub returns-in-Ok-happen-clause-noted : goal.returns-in-Ok-happen-clause-noted
returns-in-Ok-happen-clause-noted g c shown =
    more_then (g.K.Sink.noted c.args.out.now) (g.K.Sink.noted c.stop_node.new.out) (g.K.Sink.noted c.happen.new.out) (c.stop_node.ensures.noted shown)
    (c.happen.ensures.noted shown)

pub returns-in-Err-happen-clause-noted : goal.returns-in-Err-happen-clause-noted
returns-in-Err-happen-clause-noted g c shown =
    more_then (g.K.Sink.noted c.args.out.now) (g.K.Sink.noted c.stop_node.new.out) (g.K.Sink.noted c.happen.new.out) (c.stop_node.ensures.noted shown)
    (c.happen.ensures.noted shown)

pub returns-in-Err-happen-clause-faults : goal.returns-in-Err-happen-clause-faults
returns-in-Err-happen-clause-faults g c = rw (sym c.in-Ok.ensures.faults) c.in-Err-happen.ensures.faults

pub happen-requires-clause-request : goal.happen-requires-clause-request
happen-requires-clause-request g c = is_no_request (g.N.Node.meaning c.opened.result) opened_input c.opened.ensures tt
