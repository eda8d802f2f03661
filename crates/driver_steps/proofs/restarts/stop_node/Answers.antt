use Rattle.std.proofs.Common.{rules, length}
use Rattle.std.proofs.lemmas.Option.{slice_get_read}
use Rattle.std.specs.Option.{option_map}
use Rattle.driver_steps.proofs.DiskNotes.{two_rows}
use Rattle.driver_steps.proofs.Seats.{faults_same, places_same}
use Rattle.driver_steps.proofs.Stepping.{faults_told}
use Rattle.driver_steps.proofs.Stops.{node_failed, node_started}
use Rattle.driver_steps.proofs.restarts.stop_node.Goals as goal

pub returns-in-Ok-clause-started : goal.returns-in-Ok-clause-started
returns-in-Ok-clause-started g c told since w e may gives are counts leave =
    node_started g.L.Log.facts g.N.Node.state g.N.Node.steps g.K.Sink.tells since c.args.seats.now.items c.args.at c.index_mut-seat.result.now c.stop_seat.new.seat
    (g.K.Sink.noted c.args.out.now) (g.K.Sink.noted c.note_cut.new.out) (length (g.K.Sink.held c.args.out.now))
    (slice_get_read _ _ _ _ (search rules) c.requires.at c.index_mut-seat.ensures.value) c.requires.«open» c.note_cut.ensures.durable c.note_cut.ensures.noted
    c.stop_seat.ensures.place told (g.O.Opens.part c.args.opener.now) w e (option_map (λ i. g.N.Node.meaning i) c.args.input) may gives are leave counts
    c.in-Ok.ensures.started

pub returns-in-Err-clause-failed : goal.returns-in-Err-clause-failed
returns-in-Err-clause-failed g c told since w e may gives are leave =
    node_failed g.L.Log.facts g.N.Node.state g.N.Node.steps g.K.Sink.tells since c.args.seats.now.items c.args.at c.index_mut-seat.result.now c.stop_seat.new.seat
    (g.K.Sink.noted c.args.out.now) (g.K.Sink.noted c.note_cut-in-Err.new.out) (length (g.K.Sink.held c.args.out.now))
    (slice_get_read _ _ _ _ (search rules) c.requires.at c.index_mut-seat.ensures.value) c.requires.«open» c.note_cut-in-Err.ensures.durable c.note_cut-in-Err.ensures.noted
    c.stop_seat.ensures.place told (g.O.Opens.part c.args.opener.now) w e (option_map (λ i. g.N.Node.meaning i) c.args.input) may gives are leave
    c.in-Err.e c.in-Err.ensures.failed

pub returns-in-Ok-clause-faults : goal.returns-in-Ok-clause-faults
returns-in-Ok-clause-faults g c =
    faults_same g.L.Log.facts.fault_count c.args.seats.now.items c.args.at c.index_mut-seat.result.now c.stop_seat.new.seat
    (slice_get_read _ _ _ _ (search rules) c.requires.at c.index_mut-seat.ensures.value) c.in-Ok.ensures.faults

pub returns-in-Ok-clause-places : goal.returns-in-Ok-clause-places
returns-in-Ok-clause-places g c =
    places_same g.L.Log.facts.place c.args.seats.now.items c.args.at c.index_mut-seat.result.now c.stop_seat.new.seat
    (slice_get_read _ _ _ _ (search rules) c.requires.at c.index_mut-seat.ensures.value) c.stop_seat.ensures.place

pub returns-in-Err-clause-faults : goal.returns-in-Err-clause-faults
returns-in-Err-clause-faults g c =
    faults_told g.L.Log.facts.fault_count c.args.seats.now.items c.args.at c.index_mut-seat.result.now c.stop_seat.new.seat c.in-Err.e
    (slice_get_read _ _ _ _ (search rules) c.requires.at c.index_mut-seat.ensures.value) c.in-Err.ensures.faults

pub returns-in-Err-clause-places : goal.returns-in-Err-clause-places
returns-in-Err-clause-places g c =
    places_same g.L.Log.facts.place c.args.seats.now.items c.args.at c.index_mut-seat.result.now c.stop_seat.new.seat
    (slice_get_read _ _ _ _ (search rules) c.requires.at c.index_mut-seat.ensures.value) c.stop_seat.ensures.place

pub returns-in-Ok-clause-noted : goal.returns-in-Ok-clause-noted
returns-in-Ok-clause-noted g c shown =
    two_rows (g.K.Sink.noted c.args.out.now) _ (g.K.Sink.noted c.note_cut.new.out) (c.note_cut.ensures.noted shown)

pub returns-in-Err-clause-noted : goal.returns-in-Err-clause-noted
returns-in-Err-clause-noted g c shown =
    two_rows (g.K.Sink.noted c.args.out.now) _ (g.K.Sink.noted c.note_cut-in-Err.new.out) (c.note_cut-in-Err.ensures.noted shown)
