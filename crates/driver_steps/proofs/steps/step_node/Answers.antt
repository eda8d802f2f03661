use Rattle.std.proofs.Common.{rules, length, map}
use Rattle.std.proofs.lemmas.Option.{slice_get_read}
use Rattle.node_traits.specs.Faults.{cause_of}
use Rattle.driver_steps.specs.Seats.{seat_since}
use Rattle.driver_steps.proofs.DiskNotes.{two_rows}
use Rattle.driver_steps.proofs.Missed.{counted_after, counted_here, left_told, open_told}
use Rattle.driver_steps.proofs.Seats.{faults_same, left_falls, places_same}
use Rattle.driver_steps.proofs.Stepping.{faults_told, stands_at}
use Rattle.driver_steps.proofs.Hosts.{node_failed, node_missed, node_stepped}
use Rattle.driver_steps.proofs.steps.step_node.Goals as goal

pub returns-in-Ok-clause-stepped : goal.returns-in-Ok-clause-stepped
returns-in-Ok-clause-stepped g c since w are leave =
    let got = slice_get_read _ _ _ _ (search rules) c.requires.at c.index_mut-seat.ensures.value in
    node_stepped g.L.Log.facts g.N.Node.state g.N.Node.steps g.K.Sink.tells since c.args.seats.now.items c.args.at c.index_mut-seat.result.now c.step_seat.new.seat
    (g.K.Sink.noted c.args.out.now) (g.K.Sink.noted c.note_cut.new.out) (length (g.K.Sink.held c.args.out.now)) got c.requires.«open»
    c.note_cut.ensures.durable c.note_cut.ensures.noted c.step_seat.ensures.place w (g.N.Node.meaning c.args.input) are leave
    (map (λ message. g.N.Mail.Mail.letter message) c.in-Ok.outputs.mail) c.in-Ok.outputs.replies
    (c.in-Ok.ensures.stepped since w c.args.at
    (stands_at (seat_since g.N.Node.state g.N.Node.steps g.L.Log.facts since) c.args.seats.now.items w c.args.at c.index_mut-seat.result.now are leave.each got))

pub returns-in-Ok-clause-falls : goal.returns-in-Ok-clause-falls
returns-in-Ok-clause-falls g c =
    left_falls g.N.Node.steps c.args.seats.now.items c.args.at c.index_mut-seat.result.now c.step_seat.new.seat
    (slice_get_read _ _ _ _ (search rules) c.requires.at c.index_mut-seat.ensures.value) c.in-Ok.ensures.counted c.step_seat.ensures.below

pub returns-in-Ok-clause-faults : goal.returns-in-Ok-clause-faults
returns-in-Ok-clause-faults g c =
    faults_same g.L.Log.facts.fault_count c.args.seats.now.items c.args.at c.index_mut-seat.result.now c.step_seat.new.seat
    (slice_get_read _ _ _ _ (search rules) c.requires.at c.index_mut-seat.ensures.value) c.in-Ok.ensures.faults

pub returns-in-Ok-clause-places : goal.returns-in-Ok-clause-places
returns-in-Ok-clause-places g c =
    places_same g.L.Log.facts.place c.args.seats.now.items c.args.at c.index_mut-seat.result.now c.step_seat.new.seat
    (slice_get_read _ _ _ _ (search rules) c.requires.at c.index_mut-seat.ensures.value) c.step_seat.ensures.place

pub returns-in-Err-clause-failed : goal.returns-in-Err-clause-failed
returns-in-Err-clause-failed g c since w are leave =
    let got = slice_get_read _ _ _ _ (search rules) c.requires.at c.index_mut-seat.ensures.value in
    node_failed g.L.Log.facts g.N.Node.state g.N.Node.steps g.K.Sink.tells since c.args.seats.now.items c.args.at c.index_mut-seat.result.now c.step_seat.new.seat
    (g.K.Sink.noted c.args.out.now) (g.K.Sink.noted c.note_cut-in-Err.new.out) (length (g.K.Sink.held c.args.out.now)) got c.requires.«open»
    c.note_cut-in-Err.ensures.durable c.note_cut-in-Err.ensures.noted c.step_seat.ensures.place w (g.N.Node.meaning c.args.input) are leave (cause_of c.in-Err.e)
    (c.in-Err.ensures.failed since w c.args.at
    (stands_at (seat_since g.N.Node.state g.N.Node.steps g.L.Log.facts since) c.args.seats.now.items w c.args.at c.index_mut-seat.result.now are leave.each got))
    c.in-Err.ensures.unchanged

pub returns-in-Err-clause-faults : goal.returns-in-Err-clause-faults
returns-in-Err-clause-faults g c =
    faults_told g.L.Log.facts.fault_count c.args.seats.now.items c.args.at c.index_mut-seat.result.now c.step_seat.new.seat (cause_of c.in-Err.e)
    (slice_get_read _ _ _ _ (search rules) c.requires.at c.index_mut-seat.ensures.value) c.in-Err.ensures.faults

pub returns-in-Err-clause-places : goal.returns-in-Err-clause-places
returns-in-Err-clause-places g c =
    places_same g.L.Log.facts.place c.args.seats.now.items c.args.at c.index_mut-seat.result.now c.step_seat.new.seat
    (slice_get_read _ _ _ _ (search rules) c.requires.at c.index_mut-seat.ensures.value) c.step_seat.ensures.place

pub returns-in-Ok-clause-noted : goal.returns-in-Ok-clause-noted
returns-in-Ok-clause-noted g c shown =
    two_rows (g.K.Sink.noted c.args.out.now) _ (g.K.Sink.noted c.note_cut.new.out) (c.note_cut.ensures.noted shown)

pub returns-in-Err-clause-noted : goal.returns-in-Err-clause-noted
returns-in-Err-clause-noted g c shown =
    two_rows (g.K.Sink.noted c.args.out.now) _ (g.K.Sink.noted c.note_cut-in-Err.new.out) (c.note_cut-in-Err.ensures.noted shown)

pub returns-in-Ok-clause-counted : goal.returns-in-Ok-clause-counted
returns-in-Ok-clause-counted g c since w v counted moves =
    counted_after (seat_since g.N.Node.state g.N.Node.steps g.L.Log.facts since) c.args.seats.now.items w c.args.at c.step_seat.new.seat
    (g.N.Node.meaning c.args.input) counted c.index_mut-seat.result.now v
    (slice_get_read _ _ _ _ (search rules) c.requires.at c.index_mut-seat.ensures.value) moves c.in-Ok.ensures.counted

pub returns-in-Err-clause-missed : goal.returns-in-Err-clause-missed
returns-in-Err-clause-missed g c since w are counted leave =
    let got = slice_get_read _ _ _ _ (search rules) c.requires.at c.index_mut-seat.ensures.value in
    node_missed g.L.Log.facts g.N.Node.state g.N.Node.steps g.K.Sink.tells since c.args.seats.now.items c.args.at c.index_mut-seat.result.now c.step_seat.new.seat
    (g.K.Sink.noted c.args.out.now) (g.K.Sink.noted c.note_cut-in-Err.new.out) (length (g.K.Sink.held c.args.out.now)) got c.requires.«open»
    c.note_cut-in-Err.ensures.durable c.note_cut-in-Err.ensures.noted c.step_seat.ensures.place w (g.N.Node.meaning c.args.input) are leave
    (λ message. g.N.Mail.Mail.letter message) (g.N.Node.steps c.index_mut-seat.result.now.node) c.in-Err.e counted
    (c.in-Err.ensures.missed since w c.args.at
    (stands_at (seat_since g.N.Node.state g.N.Node.steps g.L.Log.facts since) c.args.seats.now.items w c.args.at c.index_mut-seat.result.now are leave.each got)
    (counted_here (seat_since g.N.Node.state g.N.Node.steps g.L.Log.facts since) c.args.seats.now.items w c.args.at c.index_mut-seat.result.now counted got))
    c.in-Err.ensures.unchanged

pub returns-in-Err-clause-falls_err : goal.returns-in-Err-clause-falls_err
returns-in-Err-clause-falls_err g c =
    left_told c.args.seats.now.items c.args.at c.index_mut-seat.result.now c.step_seat.new.seat g.N.Node.steps (λ message. g.N.Mail.Mail.letter message)
    (g.N.Node.meaning c.args.input) c.in-Err.e (slice_get_read _ _ _ _ (search rules) c.requires.at c.index_mut-seat.ensures.value)
    c.in-Err.ensures.counted_err c.step_seat.ensures.below c.in-Err.ensures.cheap

pub returns-in-Err-clause-open : goal.returns-in-Err-clause-open
returns-in-Err-clause-open g c =
    open_told c.args.seats.now.items c.args.at c.index_mut-seat.result.now c.step_seat.new.seat g.L.Log.facts.is_open (cause_of c.in-Err.e) c.requires.«open»
    c.in-Err.ensures.«open»
