use Rattle.std.proofs.Common.{◌≡◌, ◌∙◌, ◌≤◌, ◌+◌, ℕ, List, [], inr, length, refl, subst, sym, arith}
use Rattle.std.specs.Prelude.{None, vec_len}
use Rattle.outside.specs.Devices.{sink_call, source_call}
use Rattle.opmsg_frames.specs.Frames.{ends}
use Rattle.driver_steps.specs.Crashes.{with_notes}
use Rattle.driver_steps.specs.Seats.{seat_since, since_noted}
use Rattle.driver_steps.specs.Together.{hosted}
use Rattle.driver_steps.specs.Worlds.{network_view, puts_given}
use Rattle.driver_steps.proofs.Crashes.{counted_since, held_since, kept_plain}
use Rattle.driver_steps.proofs.Seats.{held_len}
use Rattle.driver_steps.proofs.Together.{leave_at_start}
use Rattle.pipe_driver.specs.Acknowledgements.{AreCovered}
use Rattle.pipe_driver.specs.Progress.{all_replies}
use Rattle.pipe_driver.proofs.Covers.{acknowledged, none_noted, without_notes}
use Rattle.pipe_driver.proofs.Endings.{ended_serving, piped_by, piped_with, same_sink}
use Rattle.pipe_driver.proofs.Openings.{starts}
use Rattle.pipe_driver.proofs.Serving.{but_for_disks, opened_serving, opening_cut, stops_by}
use Rattle.pipe_driver.proofs.connection.pipe.Goals as goal

pub returns-in-Ok-clause-piped : goal.returns-in-Ok-clause-piped
returns-in-Ok-clause-piped g c = λ asks first some are as_held.
    let facts = g.L.Log.facts in
    let seats = c.args.seats.now.items in
    let since = since_noted seats first (g.K.Sink.noted c.args.out.now) in
    let seated = held_since g.N.Node.state g.N.Node.steps facts since seats first.nodes are in
    let counted = counted_since g.N.Node.state g.N.Node.steps facts since seats first.nodes as_held in
    let held : g.K.Sink.held c.open_all.new.out ≡ g.K.Sink.held c.args.out.now = c.open_all.ensures.held ∙ c.note_cut.ensures.held in
    let calm : g.K.Sink.fault_count c.open_all.new.out ≡ g.K.Sink.fault_count c.args.out.now = c.open_all.ensures.sink ∙ c.note_cut.ensures.faults in
    let as_many = c.args.seats.now.ok.0 ∙ held_len _ seats first.nodes seated in
    let s = starts (seat_since g.N.Node.state g.N.Node.steps facts since) (λ m. g.N.Mail.Mail.letter m)
    (hosted g.K.Sink.tells facts since (g.K.Sink.noted c.note_cut.new.out) seats) first c.new-network.result some.begins seated counted
    (leave_at_start facts g.N.Node.state g.N.Node.steps g.K.Sink.tells seats first (g.K.Sink.noted c.args.out.now) (g.K.Sink.noted c.note_cut.new.out)
    (length (g.K.Sink.held c.args.out.now)) c.requires.«open» c.note_cut.ensures.durable seated c.note_cut.ensures.noted)
    c.new-network.ensures.waiting c.new-network.ensures.replies in
    let served = c.serve.ensures.piped asks since first some
    (opened_serving _ _ _ c.args.router first _ _ (vec_len c.args.seats.now) as_many _ some.begins
    (c.in-Ok.ensures.opened since first 0 (puts_given first.answered) s))
    (none_noted _ _ _) in
    piped_with _ _ _ _ _ _ _ _ _ _ first _ _ _
    (piped_by _ _ _ _ _ _ _ _ first _ _ _ (same_sink g.K.Sink.tells g.K.Sink.held g.K.Sink.fault_count _ _ _ _ held calm refl refl) served.2)
    (λ nodes kept. kept_plain g.N.Node.state g.N.Node.steps facts (with_notes since served.0) _ nodes kept)
    (λ w leave. without_notes g.N.Node.state g.N.Node.steps facts since served.0 _ w refl leave)
    (λ w put leave owed. acknowledged g.N.Node.state g.N.Node.steps facts since served.0 (all_replies first) first _ _ _ _ w put leave.each served.1
    (λ told. subst (λ (b : List ℕ). AreCovered (all_replies first) first served.0 b put w) held (owed told)))

pub returns-in-Err-clause-piped : goal.returns-in-Err-clause-piped
returns-in-Err-clause-piped g c = λ asks first some are as_held.
    let facts = g.L.Log.facts in
    let seats = c.args.seats.now.items in
    let since = since_noted seats first (g.K.Sink.noted c.args.out.now) in
    let seated = held_since g.N.Node.state g.N.Node.steps facts since seats first.nodes are in
    let counted = counted_since g.N.Node.state g.N.Node.steps facts since seats first.nodes as_held in
    let held : g.K.Sink.held c.open_all.new.out ≡ g.K.Sink.held c.args.out.now = c.open_all.ensures.held ∙ c.note_cut.ensures.held in
    let calm : g.K.Sink.fault_count c.open_all.new.out ≡ g.K.Sink.fault_count c.args.out.now = c.open_all.ensures.sink ∙ c.note_cut.ensures.faults in
    let as_many = c.args.seats.now.ok.0 ∙ held_len _ seats first.nodes seated in
    let s = starts (seat_since g.N.Node.state g.N.Node.steps facts since) (λ m. g.N.Mail.Mail.letter m)
    (hosted g.K.Sink.tells facts since (g.K.Sink.noted c.note_cut.new.out) seats) first c.new-network.result some.begins seated counted
    (leave_at_start facts g.N.Node.state g.N.Node.steps g.K.Sink.tells seats first (g.K.Sink.noted c.args.out.now) (g.K.Sink.noted c.note_cut.new.out)
    (length (g.K.Sink.held c.args.out.now)) c.requires.«open» c.note_cut.ensures.durable seated c.note_cut.ensures.noted)
    c.new-network.ensures.waiting c.new-network.ensures.replies in
    let now = hosted g.K.Sink.tells facts since (g.K.Sink.noted c.open_all.new.out) c.open_all.new.seats.items in
    let cut = opening_cut (seat_since g.N.Node.state g.N.Node.steps facts since) now (g.C.Clock.gives c.args.clock.now) c.args.router
    first g.K.Sink.tells (g.K.Sink.held c.args.out.now) (vec_len c.args.seats.now) as_many _ c.in-Err.e
    (c.in-Err.ensures.stopped since first 0 (puts_given first.answered) s) in
    let none : c.ended.result.rest ≡ 0 = c.ended.ensures.rest in
    let few : 0 + 0 ≤ c.args.limit = omega arith in
    piped_with _ _ _ _ _ _ _ _ _ _ first _ _ _
    (piped_by _ _ _ _ _ _ _ _ first _ _ _ (same_sink g.K.Sink.tells g.K.Sink.held g.K.Sink.fault_count _ _ _ _ refl refl (sym held) (sym calm))
    (ended_serving (seat_since g.N.Node.state g.N.Node.steps facts since) now
    (source_call g.S.Source.tells g.S.Source.left g.S.Source.fault_count c.args.input.now c.args.input.now)
    (sink_call g.K.Sink.tells g.K.Sink.held g.K.Sink.fault_count c.args.out.now c.args.out.now) (g.C.Clock.gives c.args.clock.now) c.args.router [] first c.args.limit
    c.ended.result.rest c.ended.result.status [] [] (network_view (λ m. g.N.Mail.Mail.letter m) c.open_all.new.network) c.of.result c.ended.ensures.status
    (inr (stops_by _ _ _ c.args.router first _ _ _ _ _ c.in-Err.e _ c.of.ensures cut))
    (λ told. refl) few (λ place. ([], [], None, ends place [] refl, none))))
    (λ nodes kept. kept_plain g.N.Node.state g.N.Node.steps facts since _ nodes kept)
    (λ w leave. record { each = leave.each; together = leave.together })
    (λ w put leave owed. acknowledged g.N.Node.state g.N.Node.steps facts since [] (all_replies first) first _ _ _ _ w put leave.each (none_noted _ _ _) owed)

pub returns-in-Err-clause-open : goal.returns-in-Err-clause-open
returns-in-Err-clause-open g c = λ disk. but_for_disks c.in-Err.e _ _ (c.ended.ensures.status ∙ c.of.ensures) disk c.in-Err.ensures.«open»
