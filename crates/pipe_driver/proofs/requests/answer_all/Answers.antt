use Rattle.std.proofs.Common.{◌++◌, ◌∙◌, refl, inl, inr, arith}
use Rattle.opmsg_frames.specs.Outlines.{fault_view}
use Rattle.driver_steps.specs.Crashes.{with_notes}
use Rattle.driver_steps.specs.Seats.{seat_since}
use Rattle.driver_steps.specs.Together.{hosted}
use Rattle.pipe_driver.proofs.Frames.{some_bytes}
use Rattle.pipe_driver.proofs.Framings.{left_behind, next_given, next_malformed, next_memory, next_none, none_given, one_given, same_bytes, still_partial}
use Rattle.pipe_driver.proofs.Framings.{told_malformed}
use Rattle.pipe_driver.proofs.Serving.{cut_between}
use Rattle.pipe_driver.specs.Stops.{at_no_memory}
use Rattle.pipe_driver.proofs.requests.answer_all.Goals as goal

pub returns-in-Ok-None-clause-served : goal.returns-in-Ok-None-clause-served
returns-in-Ok-None-clause-served g c = λ asks since first some held_before consumed s n.
    let was = c.requests.invariant.served asks since first some held_before consumed s n in
    let told = next_none c.requests.framer c.next.new.self c.in-Ok-None.field-0 c.in-Ok-None.field-0-is c.in-Ok-None.ensures in (
      was.0,
      was.1,
      (
        was.2.0,
        none_given (consumed ++ c.args.framer.now.bytes) was.2.0 c.requests.framer c.next.new.self was.2.1
            (same_bytes c.requests.framer c.next.new.self told.1),
        (still_partial c.requests.framer c.next.new.self told.1 told.0, was.2.2),
      ),
    )

pub returns-in-Err-Malformed-clause-served : goal.returns-in-Err-Malformed-clause-served
returns-in-Err-Malformed-clause-served g c = λ asks since first some held_before consumed s n.
    let was = c.requests.invariant.served asks since first some held_before consumed s n in
    let told = next_malformed c.requests.framer c.next.new.self c.in-Err-Malformed.field-0 c.in-Err-Malformed.field-0-0 c.in-Err-Malformed.field-0-1
    c.in-Err-Malformed.field-0-is c.in-Err-Malformed.ensures in (
      was.0,
      was.1,
      (
        was.2.0,
        none_given (consumed ++ c.args.framer.now.bytes) was.2.0 c.requests.framer c.next.new.self was.2.1 told.bytes,
        inl (
          refl,
          told_malformed c.requests.framer c.next.new.self (fault_view c.in-Err-Malformed.field-0-0) c.in-Err-Malformed.field-0-1
              c.requests.invariant.fault told,
          (c.requests.replied, was.2.2),
        ),
      ),
    )

pub returns-in-Err-Memory-clause-served : goal.returns-in-Err-Memory-clause-served
returns-in-Err-Memory-clause-served g c = λ asks since first some held_before consumed s n.
    let was = c.requests.invariant.served asks since first some held_before consumed s n in
    let told = next_memory c.requests.framer c.next.new.self c.in-Err-Memory.field-0 c.in-Err-Memory.field-0-is c.in-Err-Memory.ensures in (
      was.0,
      was.1,
      (
        was.2.0,
        none_given (consumed ++ c.args.framer.now.bytes) was.2.0 c.requests.framer c.next.new.self was.2.1 (same_bytes c.requests.framer c.next.new.self told),
        inr (at_no_memory (cut_between
            (seat_since g.N.Node.state g.N.Node.steps g.L.Log.facts (with_notes since was.0)) (hosted g.K.Sink.tells g.L.Log.facts since (g.K.Sink.noted c.requests.out) c.requests.seats.items)
            (g.C.Clock.gives c.args.clock.now) c.args.router first _ was.0 held_before _ was.2.0 _ c.requests.replied was.2.2)),
      ),
    )

pub returns-in-Err-clause-served : goal.returns-in-Err-clause-served
returns-in-Err-clause-served g c = λ asks since first some held_before consumed s n.
    let was = c.requests.invariant.served asks since first some held_before consumed s n in
    let given = next_given c.requests.framer c.next.new.self c.in-Ok-Some.field-0 c.in-Ok-Some.request c.in-Ok-Some.field-0-is c.in-Ok-Some.ensures in
    let then = c.in-Err.ensures.served asks given.0 given.1.meant_is given.1.first.reads (with_notes since was.0) first some held_before was.2.0 was.2.2 was.1 in (
      then.0,
      then.1,
      (
        was.2.0 ++ given.0.bytes,
        one_given (consumed ++ c.args.framer.now.bytes) was.2.0 c.requests.framer.bytes c.next.new.self.bytes given.0 was.2.1 given.1.first,
        inr then.2,
      ),
    )

pub requests-smaller : goal.requests-smaller
requests-smaller g c =
    let given = next_given c.requests.framer c.next.new.self c.in-Ok-Some.field-0 c.in-Ok-Some.request c.in-Ok-Some.field-0-is c.in-Ok-Some.ensures in
    omega (
      arith,
      left_behind c.requests.framer.bytes c.next.new.self.bytes given.0 given.1.first,
      some_bytes c.requests.framer.bytes c.next.new.self.bytes given.0 given.1.first,
    )

pub requests-preserved : goal.requests-preserved
requests-preserved g c =
    let given = next_given c.requests.framer c.next.new.self c.in-Ok-Some.field-0 c.in-Ok-Some.request c.in-Ok-Some.field-0-is c.in-Ok-Some.ensures in
    let some = some_bytes c.requests.framer.bytes c.next.new.self.bytes given.0 given.1.first in
    let behind = left_behind c.requests.framer.bytes c.next.new.self.bytes given.0 given.1.first in
    record {
      len = c.answer_one.ensures.len ∙ c.requests.invariant.len;
      are_open = c.in-Ok.ensures.«open»;
      fed = omega (arith, given.1.offset, c.requests.invariant.fed, behind);
      fault = given.1.fault;
      count = omega (arith, given.1.offset, c.in-Ok.ensures.replied, c.requests.invariant.count, some);
      sink_calm = c.answer_one.ensures.write_fault.1 (λ e. cc) ∙ c.requests.invariant.sink_calm;
      disks_calm = c.answer_one.ensures.disk_fault.1 (λ e. cc) ∙ c.requests.invariant.disks_calm;
      places = c.answer_one.ensures.places ∙ c.requests.invariant.places;
      served = λ asks since first some held_before consumed s n.
          let was = c.requests.invariant.served asks since first some held_before consumed s n in
          let then =
          c.in-Ok.ensures.served asks given.0 given.1.meant_is given.1.first.reads (with_notes since was.0) first some held_before was.2.0 was.2.2 was.1 in (
            then.0,
            then.1,
            (was.2.0 ++ given.0.bytes, one_given (consumed ++ c.args.framer.now.bytes) was.2.0 c.requests.framer.bytes c.next.new.self.bytes given.0 was.2.1 given.1.first, then.2),
          );
    }
