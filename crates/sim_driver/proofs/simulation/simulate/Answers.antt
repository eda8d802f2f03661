use Rattle.std.proofs.Common.{◌≡◌, ◌∙◌, ℕ, List, [], length, refl, subst, sym, arith}
use Rattle.std.specs.Prelude.{vec_len}
use Rattle.outside.specs.Devices.{sink_call, source_call}
use Rattle.driver_steps.specs.Crashes.{with_notes}
use Rattle.driver_steps.specs.Seats.{seat_since, since_noted}
use Rattle.driver_steps.specs.Together.{hosted}
use Rattle.driver_steps.specs.Worlds.{puts_given}
use Rattle.driver_steps.proofs.Crashes.{counted_since, held_since, kept_plain}
use Rattle.driver_steps.proofs.Seats.{held_len}
use Rattle.driver_steps.proofs.Together.{leave_at_start}
use Rattle.pipe_driver.specs.Acknowledgements.{AreCovered}
use Rattle.pipe_driver.proofs.Covers.{acknowledged, none_noted, without_notes}
use Rattle.pipe_driver.proofs.Openings.{starts}
use Rattle.sim_driver.specs.Simulations.{all_printed}
use Rattle.pipe_driver.proofs.Endings.{same_sink}
use Rattle.sim_driver.proofs.Endings.{ended_stopped, simulated_as, simulated_by}
use Rattle.sim_driver.proofs.Steps.{opened_playing, opening_stopped}
use Rattle.pipe_driver.proofs.Serving.{but_for_disks}
use Rattle.sim_driver.proofs.simulation.simulate.Goals as goal

pub returns-in-Ok-clause-simulated : goal.returns-in-Ok-clause-simulated
returns-in-Ok-clause-simulated g c = λ asks told first some parts are as_held.
    let facts = g.L.Log.facts in
    let seats = c.args.seats.now.items in
    let since = since_noted seats first (g.K.Sink.noted c.args.out.now) in
    let seated = held_since g.N.Node.state g.N.Node.steps facts since seats first.nodes are in
    let counted = counted_since g.N.Node.state g.N.Node.steps facts since seats first.nodes as_held in
    let held : g.K.Sink.held c.open_all.new.out ≡ g.K.Sink.held c.args.out.now = c.open_all.ensures.held ∙ c.note_cut.ensures.held in
    let calm : g.K.Sink.fault_count c.open_all.new.out ≡ g.K.Sink.fault_count c.args.out.now = c.open_all.ensures.sink ∙ c.note_cut.ensures.faults in
    let as_many = c.args.seats.now.ok.0 ∙ held_len _ seats first.nodes seated in
    let s = starts (seat_since g.N.Node.state g.N.Node.steps facts since) (λ m. g.N.Mail.Mail.letter m)
    (hosted g.K.Sink.tells facts since (g.K.Sink.noted c.note_cut.new.out) seats) first c.new-network.result some.begins seated counted
    (leave_at_start facts g.N.Node.state g.N.Node.steps g.K.Sink.tells seats first (g.K.Sink.noted c.args.out.now) (g.K.Sink.noted c.note_cut.new.out)
    (length (g.K.Sink.held c.args.out.now)) c.requires.«open» c.note_cut.ensures.durable seated c.note_cut.ensures.noted)
    c.new-network.ensures.waiting c.new-network.ensures.replies in
    let played = c.play_all.ensures.simulated asks told since first some parts
    (opened_playing _ _ c.args.first_router first _ _ (vec_len c.args.seats.now) as_many _ some.begins
    (c.in-Ok.ensures.opened since first 0 (puts_given first.answered) s)) (none_noted _ _ _) in
    simulated_as _ _ _ _ _ _ _ _ _ first _ _
    (λ nodes kept. kept_plain g.N.Node.state g.N.Node.steps facts (with_notes since played.0) _ nodes kept)
    (λ w leave. without_notes g.N.Node.state g.N.Node.steps facts since played.0 _ w refl leave)
    (λ w put leave owed.
    acknowledged g.N.Node.state g.N.Node.steps facts since played.0 (all_printed c.args.first_router first) first _ _ _ _ w put leave.each played.1
    (λ shown. subst (λ (b : List ℕ). AreCovered (all_printed c.args.first_router first) first played.0 b put w) held (owed shown)))
    (simulated_by _ _ _ _ _ _ _ first _ _ (same_sink g.K.Sink.tells g.K.Sink.held g.K.Sink.fault_count _ _ _ _ held calm refl refl) played.2)

pub returns-in-Err-clause-simulated : goal.returns-in-Err-clause-simulated
returns-in-Err-clause-simulated g c = λ asks told first some parts are as_held.
    let facts = g.L.Log.facts in
    let seats = c.args.seats.now.items in
    let since = since_noted seats first (g.K.Sink.noted c.args.out.now) in
    let seated = held_since g.N.Node.state g.N.Node.steps facts since seats first.nodes are in
    let counted = counted_since g.N.Node.state g.N.Node.steps facts since seats first.nodes as_held in
    let held : g.K.Sink.held c.open_all.new.out ≡ g.K.Sink.held c.args.out.now = c.open_all.ensures.held ∙ c.note_cut.ensures.held in
    let calm : g.K.Sink.fault_count c.open_all.new.out ≡ g.K.Sink.fault_count c.args.out.now = c.open_all.ensures.sink ∙ c.note_cut.ensures.faults in
    let as_many = c.args.seats.now.ok.0 ∙ held_len _ seats first.nodes seated in
    let s = starts (seat_since g.N.Node.state g.N.Node.steps facts since) (λ m. g.N.Mail.Mail.letter m)
    (hosted g.K.Sink.tells facts since (g.K.Sink.noted c.note_cut.new.out) seats) first c.new-network.result some.begins seated counted
    (leave_at_start facts g.N.Node.state g.N.Node.steps g.K.Sink.tells seats first (g.K.Sink.noted c.args.out.now) (g.K.Sink.noted c.note_cut.new.out)
    (length (g.K.Sink.held c.args.out.now)) c.requires.«open» c.note_cut.ensures.durable seated c.note_cut.ensures.noted)
    c.new-network.ensures.waiting c.new-network.ensures.replies in
    simulated_as _ _ _ _ _ _ _ _ _ first _ _
    (λ nodes kept. kept_plain g.N.Node.state g.N.Node.steps facts since _ nodes kept)
    (λ w leave. record { each = leave.each; together = leave.together })
    (λ w put leave owed.
    acknowledged g.N.Node.state g.N.Node.steps facts since [] (all_printed c.args.first_router first) first _ _ _ _ w put leave.each (none_noted _ _ _) owed)
    (simulated_by _ _ _ _ _ _ _ first _ _ (same_sink g.K.Sink.tells g.K.Sink.held g.K.Sink.fault_count _ _ _ _ refl refl (sym held) (sym calm))
    (ended_stopped (seat_since g.N.Node.state g.N.Node.steps facts since)
    (hosted g.K.Sink.tells facts since (g.K.Sink.noted c.open_all.new.out) c.open_all.new.seats.items)
    (source_call g.S.Source.tells g.S.Source.left g.S.Source.fault_count c.args.input.now c.args.input.now)
    (sink_call g.K.Sink.tells g.K.Sink.held g.K.Sink.fault_count c.args.out.now c.args.out.now) [] c.args.first_router first c.args.limit
    c.of.result [] [] c.of.result refl
    (opening_stopped _ _ c.args.first_router first _ _ (vec_len c.args.seats.now) as_many [] _ c.in-Err.e _ c.of.ensures
    (c.in-Err.ensures.stopped since first 0 (puts_given first.answered) s)) (λ shown. refl) (omega arith)))

pub returns-in-Err-clause-open : goal.returns-in-Err-clause-open
returns-in-Err-clause-open g c = λ disk. but_for_disks c.in-Err.e _ _ c.of.ensures disk c.in-Err.ensures.«open»
