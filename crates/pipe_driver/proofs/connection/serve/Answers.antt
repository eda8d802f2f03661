use Rattle.std.proofs.lemmas.List.{length-take-le}
use Rattle.std.specs.Result.{is_ok}
use Rattle.std.proofs.Common.{true, take, ◌≡◌, ◌≤◌, ◌<◌, ℕ, ◌+◌, ◌++◌, List, [], length, refl, arith, sym, ap, ◌∙◌, length-append}
use Rattle.outside.specs.Devices.{sink_call, source_call}
use Rattle.driver_steps.specs.Crashes.{with_notes}
use Rattle.driver_steps.specs.Seats.{seat_since}
use Rattle.driver_steps.specs.Together.{hosted}
use Rattle.pipe_driver.specs.Rest.{Unframed}
use Rattle.pipe_driver.specs.declared.status.Status.TheVariants as statuses
use Rattle.pipe_driver.proofs.Buffers.{as_ok}
use Rattle.pipe_driver.proofs.Counts.{have_risen_by, none_has_risen, rose_by, still}
use Rattle.pipe_driver.proofs.Framings.{all_fed}
use Rattle.pipe_driver.proofs.Endings.{ended_at_limit, ended_full, ended_serving, ended_taking, round_length, taking_stops, took_no_more, took_round}
use Rattle.pipe_driver.proofs.connection.serve.Goals as goal

pub pieces-init : goal.pieces-init
pieces-init g c = record {
  most = omega arith;
  room = c.in-Ok.ensures;
  partial = rw c.new-framer.ensures refl;
  fed = rw c.new-framer.ensures refl;
  fault = rw c.new-framer.ensures refl;
  count = omega arith;
  len = refl;
  are_open = c.requires.«open»;
  source_calm = refl;
  sink_calm = refl;
  disks_calm = refl;
  places = refl;
  went = λ asks since first some s n. (since.noted, n, ([], rw c.new-framer.ensures refl, (λ told. rw c.new-framer.ensures refl), s));
}

pub returns-in_default-clause-piped : goal.returns-in_default-clause-piped
returns-in_default-clause-piped g c = λ asks since first some s n. (
  since.noted,
  n,
  ended_full (seat_since g.N.Node.state g.N.Node.steps g.L.Log.facts (with_notes since since.noted))
      (hosted g.K.Sink.tells g.L.Log.facts since (g.K.Sink.noted c.args.out.now) c.args.seats.now.items)
      (source_call g.S.Source.tells g.S.Source.left g.S.Source.fault_count c.args.input.now c.args.input.now)
      (sink_call g.K.Sink.tells g.K.Sink.held g.K.Sink.fault_count c.args.out.now c.args.out.now) (g.C.Clock.gives c.args.clock.now) c.args.router since.noted first c.args.limit
      c.ended.result.rest c.ended.result.status [] [] _ 0 c.ended.ensures.status s (λ told. refl) (omega arith) refl c.ended.ensures.rest,
)

pub returns-then-is_err-clause-piped : goal.returns-then-is_err-clause-piped
returns-then-is_err-clause-piped g c = λ asks since first some s n.
    let went = c.pieces.invariant.went asks since first some s n in
    let counted : c.ended-then-is_err.result.rest ≡ length c.pieces.framer.bytes =
    omega (arith, c.ended-then-is_err.ensures.rest, ap length c.rest.ensures, ap length c.reserve.ensures.bytes) in (
      went.0,
      went.1,
      ended_full (seat_since g.N.Node.state g.N.Node.steps g.L.Log.facts (with_notes since went.0))
          (hosted g.K.Sink.tells g.L.Log.facts since (g.K.Sink.noted c.pieces.out) c.pieces.seats.items)
          (source_call g.S.Source.tells g.S.Source.left g.S.Source.fault_count c.args.input.now c.pieces.input)
          (sink_call g.K.Sink.tells g.K.Sink.held g.K.Sink.fault_count c.args.out.now c.pieces.out) (g.C.Clock.gives c.args.clock.now) c.args.router went.0 first c.args.limit
          c.ended-then-is_err.result.rest c.ended-then-is_err.result.status went.2.0 c.pieces.framer.bytes _ c.pieces.puts c.ended-then-is_err.ensures.status went.2.3
          went.2.2 (omega (arith, went.2.1, c.pieces.invariant.most)) c.pieces.invariant.partial counted,
    )

pub returns-in-Err-clause-piped : goal.returns-in-Err-clause-piped
returns-in-Err-clause-piped g c = λ asks since first some s n.
    let went = c.pieces.invariant.went asks since first some s n in
    let size : length (went.2.0 ++ c.pieces.framer.bytes) ≡ c.pieces.taken = length-append went.2.0 c.pieces.framer.bytes ∙ went.2.1 in
    let below : length (went.2.0 ++ c.pieces.framer.bytes) < c.args.limit = omega (arith, size, c.pieces-test.true) in
    let counted : c.ended-in-Err.result.rest ≡ length c.pieces.framer.bytes =
    omega (arith, c.ended-in-Err.ensures.rest, ap length c.rest-in-Err.ensures, ap length c.reserve.ensures.bytes) in (
      went.0,
      went.1,
      ended_taking (seat_since g.N.Node.state g.N.Node.steps g.L.Log.facts (with_notes since went.0))
          (hosted g.K.Sink.tells g.L.Log.facts since (g.K.Sink.noted c.pieces.out) c.pieces.seats.items)
          (source_call g.S.Source.tells g.S.Source.left g.S.Source.fault_count c.args.input.now c.take_more.new.input)
          (sink_call g.K.Sink.tells g.K.Sink.held g.K.Sink.fault_count c.args.out.now c.pieces.out) (g.C.Clock.gives c.args.clock.now) c.args.router went.0 first c.args.limit
          c.ended-in-Err.result.rest c.ended-in-Err.result.status went.2.0 c.pieces.framer.bytes _ c.pieces.puts c.in-Err.status
          c.ended-in-Err.ensures.status c.in-Err.ensures.taken.1 went.2.3
          (took_no_more _ _ _ _ _ went.2.2 c.in-Err.ensures.taken.0) below c.pieces.invariant.partial counted,
    )

pub returns-in-Err-clause-read_fault : goal.returns-in-Err-clause-read_fault
returns-in-Err-clause-read_fault g c =
    rose_by c.take_more.result c.ended-in-Err.result.status c.in-Err.status statuses.ReadFailed _ _ _ c.in-Err.is c.ended-in-Err.ensures.status
    c.pieces.invariant.source_calm c.take_more.ensures.fault

pub returns-in-Err-clause-write_fault : goal.returns-in-Err-clause-write_fault
returns-in-Err-clause-write_fault g c =
    still _ _ _ (λ is. (taking_stops _ _ c.in-Err.status c.in-Err.ensures.taken.1).0 (sym c.ended-in-Err.ensures.status ∙ is)) c.pieces.invariant.sink_calm

pub returns-in-Err-clause-disk_fault : goal.returns-in-Err-clause-disk_fault
returns-in-Err-clause-disk_fault g c =
    none_has_risen _ _ _ (λ is. (taking_stops _ _ c.in-Err.status c.in-Err.ensures.taken.1).1 (sym c.ended-in-Err.ensures.status ∙ is)) c.pieces.invariant.disks_calm

-- room was made for what is fed
pub returns-in_default-feed-clause-piped : goal.returns-in_default-feed-clause-piped
returns-in_default-feed-clause-piped g c = λ asks since first some s n.
    let size : length (take c.in-Ok-take_more.count c.take_more.new.piece.items) ≡ c.in-Ok-take_more.count =
    length-take-le c.in-Ok-take_more.count c.take_more.new.piece.items (omega (
      arith,
      c.in-Ok-take_more.ensures.most,
      c.min-room.ensures,
      c.take_more.ensures.len,
      c.pieces.invariant.room,
      c.take_more.new.piece.ok,
    )) in
    let fed : length (take c.in-Ok-take_more.count c.deref.result.now) ≡ c.in-Ok-take_more.count =
    ap (λ (b : List ℕ). length (take c.in-Ok-take_more.count b)) c.deref.ensures.value ∙ size in
    let made : is_ok c.reserve.result ≡ true = grind (arith, c.is_err.ensures.negation, c.if-is_err.false) in
    let room : c.min-room.result ≤ c.reserve.new.self.room = as_ok c.reserve.result _ made c.reserve.ensures.room in
    let well = c.in_default-feed.ensures.room (omega (arith, fed, room, c.in-Ok-take_more.ensures.most)) (omega (
      arith,
      fed,
      c.in-Ok-take_more.ensures.most,
      c.min-room.ensures,
      c.pieces-test.true,
      c.pieces.invariant.fed,
      c.reserve.ensures.offset,
      ap length c.reserve.ensures.bytes,
      c.requires.limit,
    )) in
    absurd (cc well)

pub answer_all-requires-clause-fed : goal.answer_all-requires-clause-fed
answer_all-requires-clause-fed g c =
    let more = c.in-Ok-take_more.ensures.taken in
    let bytes : List ℕ = take c.in-Ok-take_more.count c.take_more.new.piece.items in
    let size : length bytes ≡ c.in-Ok-take_more.count =
    length-take-le c.in-Ok-take_more.count c.take_more.new.piece.items (omega (
      arith,
      c.in-Ok-take_more.ensures.most,
      c.min-room.ensures,
      c.take_more.ensures.len,
      c.pieces.invariant.room,
      c.take_more.new.piece.ok,
    )) in
    let step = c.in-Ok-feed.ensures.taken in
    let fed : c.feed.new.self.bytes ≡ c.pieces.framer.bytes ++ bytes =
    all_fed c.pieces.framer.bytes c.reserve.new.self.bytes c.feed.new.self.bytes _ bytes c.reserve.ensures.bytes step.0
    (ap (λ (b : List ℕ). take c.in-Ok-take_more.count b) c.deref.ensures.value) in
    omega (
      arith,
      ap length fed,
      length-append c.pieces.framer.bytes bytes,
      size,
      c.in-Ok-take_more.ensures.most,
      c.min-room.ensures,
      c.pieces-test.true,
      c.pieces.invariant.fed,
      step.1,
      c.reserve.ensures.offset,
      c.requires.limit,
    )

pub pieces-preserved : goal.pieces-preserved
pieces-preserved g c =
    let more = c.in-Ok-take_more.ensures.taken in
    let bytes : List ℕ = take c.in-Ok-take_more.count c.take_more.new.piece.items in
    let size : length bytes ≡ c.in-Ok-take_more.count =
    length-take-le c.in-Ok-take_more.count c.take_more.new.piece.items (omega (
      arith,
      c.in-Ok-take_more.ensures.most,
      c.min-room.ensures,
      c.take_more.ensures.len,
      c.pieces.invariant.room,
      c.take_more.new.piece.ok,
    )) in
    let step = c.in-Ok-feed.ensures.taken in
    let fed : c.feed.new.self.bytes ≡ c.pieces.framer.bytes ++ bytes =
    all_fed c.pieces.framer.bytes c.reserve.new.self.bytes c.feed.new.self.bytes _ bytes c.reserve.ensures.bytes step.0
    (ap (λ (b : List ℕ). take c.in-Ok-take_more.count b) c.deref.ensures.value) in
    let most : c.pieces.taken + c.in-Ok-take_more.count ≤ c.args.limit = omega (arith, c.in-Ok-take_more.ensures.most, c.min-room.ensures, c.pieces-test.true) in
    record {
      most = most;
      room = c.take_more.ensures.len ∙ c.pieces.invariant.room;
      partial = c.in-Ok-answer_all.ensures.partial;
      fed = omega (
        arith,
        c.answer_all.ensures.fed,
        ap length fed,
        length-append c.pieces.framer.bytes bytes,
        size,
        c.pieces.invariant.fed,
        step.1,
        c.reserve.ensures.offset,
      );
      fault = c.in-Ok-answer_all.ensures.fault;
      count = c.in-Ok-answer_all.ensures.replied;
      len = c.answer_all.ensures.len ∙ c.pieces.invariant.len;
      are_open = c.in-Ok-answer_all.ensures.«open»;
      source_calm = c.take_more.ensures.fault.1 (λ e. cc) ∙ c.pieces.invariant.source_calm;
      sink_calm = c.answer_all.ensures.write_fault.1 (λ e. cc) ∙ c.pieces.invariant.sink_calm;
      disks_calm = c.answer_all.ensures.disk_fault.1 (λ e. cc) ∙ c.pieces.invariant.disks_calm;
      places = c.answer_all.ensures.places ∙ c.pieces.invariant.places;
      went = λ asks since first some s n.
          let went = c.pieces.invariant.went asks since first some s n in
          let more = c.in-Ok-take_more.ensures.taken in
          let bytes : List ℕ = take c.in-Ok-take_more.count c.take_more.new.piece.items in
          let size : length bytes ≡ c.in-Ok-take_more.count =
          length-take-le c.in-Ok-take_more.count c.take_more.new.piece.items (omega (
            arith,
            c.in-Ok-take_more.ensures.most,
            c.min-room.ensures,
            c.take_more.ensures.len,
            c.pieces.invariant.room,
            c.take_more.new.piece.ok,
          )) in
          let step = c.in-Ok-feed.ensures.taken in
          let rest : List ℕ = c.answer_all.new.framer.bytes in
          let fed : c.feed.new.self.bytes ≡ c.pieces.framer.bytes ++ bytes =
          all_fed c.pieces.framer.bytes c.reserve.new.self.bytes c.feed.new.self.bytes _ bytes c.reserve.ensures.bytes step.0
          (ap (λ (b : List ℕ). take c.in-Ok-take_more.count b) c.deref.ensures.value) in
          let round = c.in-Ok-answer_all.ensures.served asks (with_notes since went.0) first some (g.K.Sink.held c.args.out.now) went.2.0 went.2.3 went.1 in
          let sum : length round.2.0 + length rest ≡ c.pieces.taken + c.in-Ok-take_more.count =
          round_length went.2.0 c.pieces.framer.bytes bytes c.feed.new.self.bytes round.2.0 rest c.pieces.taken c.in-Ok-take_more.count went.2.1 size fed
          round.2.1 in
          let took = took_round _ _ _ _ went.2.0 c.pieces.framer.bytes bytes c.feed.new.self.bytes round.2.0 rest went.2.2 more.took fed round.2.1 in
          (round.0, round.1, (round.2.0, sum, took, round.2.2.1));
    }

pub returns-in-Err-answer_all-clause-piped : goal.returns-in-Err-answer_all-clause-piped
returns-in-Err-answer_all-clause-piped g c = λ asks since first some s n.
    let went = c.pieces.invariant.went asks since first some s n in
    let more = c.in-Ok-take_more.ensures.taken in
    let bytes : List ℕ = take c.in-Ok-take_more.count c.take_more.new.piece.items in
    let size : length bytes ≡ c.in-Ok-take_more.count =
    length-take-le c.in-Ok-take_more.count c.take_more.new.piece.items (omega (
      arith,
      c.in-Ok-take_more.ensures.most,
      c.min-room.ensures,
      c.take_more.ensures.len,
      c.pieces.invariant.room,
      c.take_more.new.piece.ok,
    )) in
    let step = c.in-Ok-feed.ensures.taken in
    let rest : List ℕ = c.answer_all.new.framer.bytes in
    let fed : c.feed.new.self.bytes ≡ c.pieces.framer.bytes ++ bytes =
    all_fed c.pieces.framer.bytes c.reserve.new.self.bytes c.feed.new.self.bytes _ bytes c.reserve.ensures.bytes step.0
    (ap (λ (b : List ℕ). take c.in-Ok-take_more.count b) c.deref.ensures.value) in
    let round = c.in-Err-answer_all.ensures.served asks (with_notes since went.0) first some (g.K.Sink.held c.args.out.now) went.2.0 went.2.3 went.1 in
    let sum : length round.2.0 + length rest ≡ c.pieces.taken + c.in-Ok-take_more.count =
    round_length went.2.0 c.pieces.framer.bytes bytes c.feed.new.self.bytes round.2.0 rest c.pieces.taken c.in-Ok-take_more.count went.2.1 size fed round.2.1 in
    let took = took_round _ _ _ _ went.2.0 c.pieces.framer.bytes bytes c.feed.new.self.bytes round.2.0 rest went.2.2 more.took fed round.2.1 in
    let most : c.pieces.taken + c.in-Ok-take_more.count ≤ c.args.limit = omega (arith, c.in-Ok-take_more.ensures.most, c.min-room.ensures, c.pieces-test.true) in
    let counted : Unframed rest c.ended-in-Err-answer_all.result.rest =
    rw (c.ended-in-Err-answer_all.ensures.rest, sym c.rest-in-Err-answer_all.ensures) c.unframed.ensures in (
      round.0,
      round.1,
      ended_serving (seat_since g.N.Node.state g.N.Node.steps g.L.Log.facts (with_notes since round.0))
          (hosted g.K.Sink.tells g.L.Log.facts since (g.K.Sink.noted c.answer_all.new.out) c.answer_all.new.seats.items)
          (source_call g.S.Source.tells g.S.Source.left g.S.Source.fault_count c.args.input.now c.take_more.new.input)
          (sink_call g.K.Sink.tells g.K.Sink.held g.K.Sink.fault_count c.args.out.now c.answer_all.new.out) (g.C.Clock.gives c.args.clock.now) c.args.router round.0 first c.args.limit
          c.ended-in-Err-answer_all.result.rest c.ended-in-Err-answer_all.result.status round.2.0 rest _ c.in-Err-answer_all.status
          c.ended-in-Err-answer_all.ensures.status round.2.2 took (omega (arith, sum, most)) counted,
    )

pub returns-in-Err-answer_all-clause-read_fault : goal.returns-in-Err-answer_all-clause-read_fault
returns-in-Err-answer_all-clause-read_fault g c =
    still _ _ _ (λ is. c.in-Err-answer_all.ensures.other.0 (sym c.ended-in-Err-answer_all.ensures.status ∙ is))
    (c.take_more.ensures.fault.1 (λ e. cc) ∙ c.pieces.invariant.source_calm)

pub returns-in-Err-answer_all-clause-write_fault : goal.returns-in-Err-answer_all-clause-write_fault
returns-in-Err-answer_all-clause-write_fault g c =
    rose_by c.answer_all.result c.ended-in-Err-answer_all.result.status c.in-Err-answer_all.status statuses.WriteFailed _ _ _ c.in-Err-answer_all.is
    c.ended-in-Err-answer_all.ensures.status c.pieces.invariant.sink_calm c.answer_all.ensures.write_fault

pub returns-in-Err-answer_all-clause-disk_fault : goal.returns-in-Err-answer_all-clause-disk_fault
returns-in-Err-answer_all-clause-disk_fault g c =
    have_risen_by c.answer_all.result c.ended-in-Err-answer_all.result.status c.in-Err-answer_all.status statuses.DiskFailed _ _ _ c.in-Err-answer_all.is
    c.ended-in-Err-answer_all.ensures.status c.pieces.invariant.disks_calm c.answer_all.ensures.disk_fault

pub returns-clause-piped : goal.returns-clause-piped
returns-clause-piped g c = λ asks since first some s n.
    let went = c.pieces.invariant.went asks since first some s n in
    let counted : c.ended-2.result.rest ≡ length c.pieces.framer.bytes = omega (arith, c.ended-2.ensures.rest, ap length c.rest-2.ensures) in (
      went.0,
      went.1,
      ended_at_limit (seat_since g.N.Node.state g.N.Node.steps g.L.Log.facts (with_notes since went.0))
          (hosted g.K.Sink.tells g.L.Log.facts since (g.K.Sink.noted c.pieces.out) c.pieces.seats.items)
          (source_call g.S.Source.tells g.S.Source.left g.S.Source.fault_count c.args.input.now c.pieces.input)
          (sink_call g.K.Sink.tells g.K.Sink.held g.K.Sink.fault_count c.args.out.now c.pieces.out) (g.C.Clock.gives c.args.clock.now) c.args.router went.0 first c.args.limit
          c.ended-2.result.rest c.ended-2.result.status went.2.0 c.pieces.framer.bytes _ c.pieces.puts c.ended-2.ensures.status went.2.3 went.2.2
          (omega (arith, went.2.1, c.pieces.invariant.most, c.pieces-test.false)) c.pieces.invariant.partial counted,
    )

pub returns-in-Err-answer_all-clause-open : goal.returns-in-Err-answer_all-clause-open
returns-in-Err-answer_all-clause-open g c = λ disk. c.in-Err-answer_all.ensures.open_err (λ is. disk (c.ended-in-Err-answer_all.ensures.status ∙ is))
