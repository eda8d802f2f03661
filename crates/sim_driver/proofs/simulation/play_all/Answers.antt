use Rattle.std.proofs.lemmas.List.{length-take-le}
use Rattle.std.proofs.Common.{◌≡◌, take, ◌∙◌, List, [], ℕ, length, refl, sym, ap, subst, arith, length-append}
use Rattle.outside.specs.Devices.{sink_call, source_call}
use Rattle.outside.specs.Streams.{Took}
use Rattle.std.proofs.Common.{◌+◌, ◌-◌}
use Rattle.std.specs.Prelude.{vec_len}
use Rattle.driver_steps.specs.Crashes.{with_notes}
use Rattle.driver_steps.specs.Seats.{seat_since}
use Rattle.driver_steps.specs.Together.{hosted}
use Rattle.driver_steps.specs.Worlds.{network_view}
use Rattle.pipe_driver.specs.declared.status.Status.TheVariants as statuses
use Rattle.pipe_driver.proofs.Counts.{have_risen_by, none_has_risen, rose_by, still}
use Rattle.pipe_driver.proofs.Endings.{took_no_more}
use Rattle.sim_driver.specs.Scripts.{ScriptView, new_script, script_view}
use Rattle.sim_driver.specs.Simulations.{router_count}
use Rattle.sim_driver.proofs.Endings.{ended_at_limit, ended_stopped, ended_taking, ended_within, no_fault_of_disks, no_fault_of_writes, piece_taken, reads_by}
use Rattle.sim_driver.proofs.Steps.{playing_from, playing_full, routers_are}
use Rattle.sim_driver.proofs.simulation.play_all.Goals as goal

pub pieces-init : goal.pieces-init
pieces-init g c = record {
  most = omega arith;
  room = c.in-Ok-new_piece.ensures;
  begun = rw c.new-begun.ensures.items tt;
  router = ap (λ (s : ScriptView). s.first_router) c.in-Ok.ensures.view;
  links = omega (arith, c.in-Ok.ensures.links, c.len.ensures, c.args.seats.now.ok, c.requires.at);
  len = refl;
  are_open = c.requires.«open»;
  source_calm = refl;
  sink_calm = refl;
  disks_calm = refl;
  places = refl;
  went = λ asks told since first some parts p n. (
    since.noted,
    n,
    (
      [],
      rw c.new-begun.ensures.items refl,
      (λ told. rw c.new-begun.ensures.items refl),
      playing_from (seat_since g.N.Node.state g.N.Node.steps g.L.Log.facts (with_notes since since.noted)) _ _ c.args.first_router first _ since.noted
          _ _ [] (new_script c.args.first_router (router_count c.args.first_router first)) (script_view c.in-Ok.script)
          (ap (λ (n : ℕ). new_script c.args.first_router n) (routers_are
          (seat_since g.N.Node.state g.N.Node.steps g.L.Log.facts since) _ _ c.args.first_router first _ _ _ _ _ _ p (vec_len c.args.seats.now)
          c.args.seats.now.ok.0) ∙ (ap (λ (n : ℕ). new_script c.args.first_router (n - c.args.first_router)) (sym c.len.ensures) ∙ sym c.in-Ok.ensures.view)) p,
    ),
  );
}

pub returns-in_default-clause-simulated : goal.returns-in_default-clause-simulated
returns-in_default-clause-simulated g c asks told since first some parts p n =
    let view = seat_since g.N.Node.state g.N.Node.steps g.L.Log.facts (with_notes since since.noted) in (
      since.noted,
      n,
      ended_stopped view (hosted g.K.Sink.tells g.L.Log.facts since (g.K.Sink.noted c.args.out.now) c.args.seats.now.items)
          (source_call g.S.Source.tells g.S.Source.left g.S.Source.fault_count c.args.input.now c.args.input.now)
          (sink_call g.K.Sink.tells g.K.Sink.held g.K.Sink.fault_count c.args.out.now c.args.out.now) since.noted c.args.first_router first c.args.limit
          statuses.OutOfMemory [] [] statuses.OutOfMemory refl
          (playing_full view (hosted g.K.Sink.tells g.L.Log.facts since (g.K.Sink.noted c.args.out.now) c.args.seats.now.items) (network_view
          (λ m. g.N.Mail.Mail.letter m) c.args.network) c.args.first_router first g.K.Sink.tells since.noted (g.K.Sink.held c.args.out.now)
          (g.K.Sink.held c.args.out.now) [] [] (new_script c.args.first_router (router_count c.args.first_router first)) p) (λ told. refl) (omega arith),
    )

pub returns-in_default-new_piece-clause-simulated : goal.returns-in_default-new_piece-clause-simulated
returns-in_default-new_piece-clause-simulated g c asks told since first some parts p n =
    let view = seat_since g.N.Node.state g.N.Node.steps g.L.Log.facts (with_notes since since.noted) in (
      since.noted,
      n,
      ended_stopped view (hosted g.K.Sink.tells g.L.Log.facts since (g.K.Sink.noted c.args.out.now) c.args.seats.now.items)
          (source_call g.S.Source.tells g.S.Source.left g.S.Source.fault_count c.args.input.now c.args.input.now)
          (sink_call g.K.Sink.tells g.K.Sink.held g.K.Sink.fault_count c.args.out.now c.args.out.now) since.noted c.args.first_router first c.args.limit
          statuses.OutOfMemory [] [] statuses.OutOfMemory refl
          (playing_full view (hosted g.K.Sink.tells g.L.Log.facts since (g.K.Sink.noted c.args.out.now) c.args.seats.now.items) (network_view
          (λ m. g.N.Mail.Mail.letter m) c.args.network) c.args.first_router first g.K.Sink.tells since.noted (g.K.Sink.held c.args.out.now)
          (g.K.Sink.held c.args.out.now) [] [] (new_script c.args.first_router (router_count c.args.first_router first)) p) (λ told. refl) (omega arith),
    )

pub returns-in-Err-clause-simulated : goal.returns-in-Err-clause-simulated
returns-in-Err-clause-simulated g c asks told since first some parts p n =
    let went = c.pieces.invariant.went asks told since first some parts p n in (
      went.0,
      went.1,
      ended_taking (seat_since g.N.Node.state g.N.Node.steps g.L.Log.facts (with_notes since went.0))
          (hosted g.K.Sink.tells g.L.Log.facts since (g.K.Sink.noted c.pieces.out) c.pieces.seats.items)
          (source_call g.S.Source.tells g.S.Source.left g.S.Source.fault_count c.args.input.now c.take_more.new.input)
          (sink_call g.K.Sink.tells g.K.Sink.held g.K.Sink.fault_count c.args.out.now c.pieces.out) went.0 c.args.first_router
          first c.args.limit c.unended.result
          went.2.0 c.pieces.begun.items (network_view (λ m. g.N.Mail.Mail.letter m) c.pieces.network) (script_view c.pieces.script) went.2.3
          (took_no_more _ _ _ _ _ went.2.2 c.in-Err.ensures.taken.0) c.pieces.invariant.begun
          (omega (arith, went.2.1, c.pieces-test.true)) c.in-Err.status (λ e. c.unended.ensures.none (c.as_slice.ensures.value ∙ e))
          (λ ne. c.unended.ensures.some (λ e. ne (sym c.as_slice.ensures.value ∙ e))) c.unended.ensures.other c.in-Err.ensures.taken.1,
    )

pub returns-in-Err-clause-read_fault : goal.returns-in-Err-clause-read_fault
returns-in-Err-clause-read_fault g c =
    reads_by c.take_more.result c.in-Err.status c.unended.result c.in-Err.is c.unended.ensures.other c.unended.ensures.either _ _ _
    c.pieces.invariant.source_calm c.take_more.ensures.fault

pub returns-in-Err-clause-write_fault : goal.returns-in-Err-clause-write_fault
returns-in-Err-clause-write_fault g c =
    still _ _ _ (no_fault_of_writes _ _ c.in-Err.status c.unended.result c.in-Err.ensures.taken.1 c.unended.ensures.either) c.pieces.invariant.sink_calm

pub returns-in-Err-clause-disk_fault : goal.returns-in-Err-clause-disk_fault
returns-in-Err-clause-disk_fault g c =
    none_has_risen _ _ _ (no_fault_of_disks _ _ c.in-Err.status c.unended.result c.in-Err.ensures.taken.1 c.unended.ensures.either)
    c.pieces.invariant.disks_calm

pub pieces-preserved : goal.pieces-preserved
pieces-preserved g c =
    let more = c.in-Ok-take_more.ensures.taken in
    let bytes : List ℕ = take c.in-Ok-take_more.count c.take_more.new.piece.items in
    let size : length bytes ≡ c.in-Ok-take_more.count =
    length-take-le c.in-Ok-take_more.count c.take_more.new.piece.items (omega (
      arith,
      c.in-Ok-take_more.ensures.most,
      c.min-room.ensures,
      c.take_more.ensures.len,
      c.pieces.invariant.room,
      c.take_more.new.piece.ok,
    )) in
    record {
      most = omega (arith, c.in-Ok-take_more.ensures.most, c.min-room.ensures, c.pieces-test.true);
      begun = c.in-Ok-play_piece.ensures.begun;
      room = c.take_more.ensures.len ∙ c.pieces.invariant.room;
      router = c.play_piece.ensures.router ∙ c.pieces.invariant.router;
      links = ap (λ (n : ℕ). c.args.first_router + n) c.play_piece.ensures.links ∙ c.pieces.invariant.links;
      len = c.play_piece.ensures.len ∙ c.pieces.invariant.len;
      are_open = c.in-Ok-play_piece.ensures.«open» (λ e. cc);
      source_calm = c.take_more.ensures.fault.1 (λ e. cc) ∙ c.pieces.invariant.source_calm;
      sink_calm = c.play_piece.ensures.write_fault.1 (λ e. cc) ∙ c.pieces.invariant.sink_calm;
      disks_calm = c.play_piece.ensures.disk_fault.1 (λ e. cc) ∙ c.pieces.invariant.disks_calm;
      places = c.play_piece.ensures.places ∙ c.pieces.invariant.places;
      went = λ asks told since first some parts p n.
          let went = c.pieces.invariant.went asks told since first some parts p n in
          let more = c.in-Ok-take_more.ensures.taken in
          let bytes : List ℕ = take c.in-Ok-take_more.count c.take_more.new.piece.items in
          let size : length bytes ≡ c.in-Ok-take_more.count =
          length-take-le c.in-Ok-take_more.count c.take_more.new.piece.items (omega (
            arith,
            c.in-Ok-take_more.ensures.most,
            c.min-room.ensures,
            c.take_more.ensures.len,
            c.pieces.invariant.room,
            c.take_more.new.piece.ok,
          )) in
          let then = c.in-Ok-play_piece.ensures.played asks told (with_notes since went.0) c.args.first_router first some parts
          (g.K.Sink.held c.args.out.now) went.2.0 went.2.3 went.1 in
          let h = then.2 in
          let t = piece_taken _ _ _ _ went.2.0 c.pieces.begun.items bytes _
          c.pieces.taken c.in-Ok-take_more.count went.2.2 more.took
          (ap (λ (b : List ℕ). take c.in-Ok-take_more.count b) c.deref.ensures.value) went.2.1 size in (
            then.0,
            then.1,
            (
              h.consumed,
              omega (arith, t.1, ap (λ (l : List ℕ). length l) h.whole, length-append h.consumed c.play_piece.new.begun.items),
              subst (λ (l : List ℕ). Took g.S.Source.tells (g.S.Source.left c.args.input.now) l (g.S.Source.left c.take_more.new.input)) h.whole t.0,
              h.playing,
            ),
          );
    }

pub returns-in-Err-play_piece-clause-simulated : goal.returns-in-Err-play_piece-clause-simulated
returns-in-Err-play_piece-clause-simulated g c asks told since first some parts p n =
    let went = c.pieces.invariant.went asks told since first some parts p n in
    let more = c.in-Ok-take_more.ensures.taken in
    let bytes : List ℕ = take c.in-Ok-take_more.count c.take_more.new.piece.items in
    let size : length bytes ≡ c.in-Ok-take_more.count =
    length-take-le c.in-Ok-take_more.count c.take_more.new.piece.items (omega (
      arith,
      c.in-Ok-take_more.ensures.most,
      c.min-room.ensures,
      c.take_more.ensures.len,
      c.pieces.invariant.room,
      c.take_more.new.piece.ok,
    )) in
    let t = piece_taken _ _ _ _ went.2.0 c.pieces.begun.items bytes _
    c.pieces.taken c.in-Ok-take_more.count went.2.2 more.took
    (ap (λ (b : List ℕ). take c.in-Ok-take_more.count b) c.deref.ensures.value) went.2.1 size in
    let then = c.in-Err-play_piece.ensures.stopped asks told (with_notes since went.0) c.args.first_router first some parts
    (g.K.Sink.held c.args.out.now) went.2.0 went.2.3 went.1 in (
      then.0,
      then.1,
      ended_within (seat_since g.N.Node.state g.N.Node.steps g.L.Log.facts (with_notes since then.0))
          (hosted g.K.Sink.tells g.L.Log.facts since (g.K.Sink.noted c.play_piece.new.out) c.play_piece.new.seats.items)
          (source_call g.S.Source.tells g.S.Source.left g.S.Source.fault_count c.args.input.now c.take_more.new.input)
          (sink_call g.K.Sink.tells g.K.Sink.held g.K.Sink.fault_count c.args.out.now c.play_piece.new.out) then.0 c.args.first_router first c.args.limit
          c.in-Err-play_piece.status _
          then.2 t.0
          (omega (arith, t.1, c.in-Ok-take_more.ensures.most, c.min-room.ensures, c.pieces-test.true)),
    )

pub returns-in-Err-play_piece-clause-read_fault : goal.returns-in-Err-play_piece-clause-read_fault
returns-in-Err-play_piece-clause-read_fault g c =
    still _ _ _ c.in-Err-play_piece.ensures.other.0 (c.take_more.ensures.fault.1 (λ e. cc) ∙ c.pieces.invariant.source_calm)

pub returns-in-Err-play_piece-clause-write_fault : goal.returns-in-Err-play_piece-clause-write_fault
returns-in-Err-play_piece-clause-write_fault g c =
    rose_by c.play_piece.result c.in-Err-play_piece.status c.in-Err-play_piece.status statuses.WriteFailed _ _ _ c.in-Err-play_piece.is refl
    c.pieces.invariant.sink_calm c.play_piece.ensures.write_fault

pub returns-in-Err-play_piece-clause-disk_fault : goal.returns-in-Err-play_piece-clause-disk_fault
returns-in-Err-play_piece-clause-disk_fault g c =
    have_risen_by c.play_piece.result c.in-Err-play_piece.status c.in-Err-play_piece.status statuses.DiskFailed _ _ _ c.in-Err-play_piece.is refl
    c.pieces.invariant.disks_calm c.play_piece.ensures.disk_fault

pub returns-clause-simulated : goal.returns-clause-simulated
returns-clause-simulated g c asks told since first some parts p n =
    let went = c.pieces.invariant.went asks told since first some parts p n in (
      went.0,
      went.1,
      ended_at_limit (seat_since g.N.Node.state g.N.Node.steps g.L.Log.facts (with_notes since went.0))
          (hosted g.K.Sink.tells g.L.Log.facts since (g.K.Sink.noted c.pieces.out) c.pieces.seats.items)
          (source_call g.S.Source.tells g.S.Source.left g.S.Source.fault_count c.args.input.now c.pieces.input)
          (sink_call g.K.Sink.tells g.K.Sink.held g.K.Sink.fault_count c.args.out.now c.pieces.out) went.0 c.args.first_router
          first c.args.limit
          statuses.InputTooLong went.2.0 c.pieces.begun.items (network_view (λ m. g.N.Mail.Mail.letter m) c.pieces.network)
          (script_view c.pieces.script) went.2.3
          went.2.2 c.pieces.invariant.begun refl (omega (arith, went.2.1, c.pieces.invariant.most, c.pieces-test.false)),
    )
