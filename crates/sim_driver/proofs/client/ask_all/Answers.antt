use Rattle.std.proofs.Common.{◌∙◌, Bool, refl, sym, ap, arith, w32, to_z, of_z}
use Rattle.opmsg_frames.specs.Outlines.{fault_view}
use Rattle.driver_steps.specs.Seats.{seat_since}
use Rattle.driver_steps.proofs.DiskNotes.{more_then, no_more}
use Rattle.pipe_driver.specs.Rounds.{replies_after}
use Rattle.pipe_driver.proofs.Frames.{some_bytes}
use Rattle.pipe_driver.proofs.Framings.{left_behind, next_given, next_malformed, next_none, same_bytes, still_partial, told_malformed}
use Rattle.pipe_driver.proofs.Rounds.{number_is}
use Rattle.sim_driver.proofs.Asks.{asking_cut, asking_ends, asking_fails, asking_more, asking_none, asking_stopped}
use Rattle.pipe_driver.proofs.Serving.{but_for_disks}
use Rattle.std.specs.Prelude.{Err}
use Rattle.sim_driver.proofs.client.ask_all.Goals as goal

pub requests-init : goal.requests-init
requests-init g c = record {
  len = refl;
  are_open = c.requires.«open»;
  fault = c.requires.fault;
  disks_calm = refl;
  places = refl;
  held = refl;
  sink = refl;
  noted = λ shown. no_more (g.K.Sink.noted c.args.out.now);
  went = λ asks since w handed router s.
      asking_none (seat_since g.N.Node.state g.N.Node.steps g.L.Log.facts since) handed w
      c.args.at c.args.link c.args.replied c.args.framer.now.bytes
      _ _ router s;
}

pub returns-in-Ok-None-clause-asked : goal.returns-in-Ok-None-clause-asked
returns-in-Ok-None-clause-asked g c asks since w handed router s =
    let was = c.requests.invariant.went asks since w handed router s in
    let told = next_none c.requests.framer c.next.new.self c.in-Ok-None.field-0 c.in-Ok-None.field-0-is c.in-Ok-None.ensures in
    asking_ends (seat_since g.N.Node.state g.N.Node.steps g.L.Log.facts since) handed w
    c.args.at c.args.link c.args.replied c.args.framer.now.bytes
    _ _ _ c.requests.replied was c.next.new.self.bytes (same_bytes c.requests.framer c.next.new.self told.1)
    (still_partial c.requests.framer c.next.new.self told.1 told.0)

pub returns-in-Err-Malformed-clause-asked : goal.returns-in-Err-Malformed-clause-asked
returns-in-Err-Malformed-clause-asked g c asks since w handed router s =
    let was = c.requests.invariant.went asks since w handed router s in
    let told = next_malformed c.requests.framer c.next.new.self c.in-Err-Malformed.field-0 c.in-Err-Malformed.field-0-0 c.in-Err-Malformed.field-0-1
    c.in-Err-Malformed.field-0-is c.in-Err-Malformed.ensures in
    asking_fails (seat_since g.N.Node.state g.N.Node.steps g.L.Log.facts since) handed w
    c.args.at c.args.link c.args.replied c.args.framer.now.bytes
    _ _ _ c.requests.replied was c.next.new.self.bytes told.bytes
    (told_malformed c.requests.framer c.next.new.self (fault_view c.in-Err-Malformed.field-0-0) c.in-Err-Malformed.field-0-1
    c.requests.invariant.fault told)

pub returns-in-Err-Memory-clause-cut : goal.returns-in-Err-Memory-clause-cut
returns-in-Err-Memory-clause-cut g c asks since w handed router s =
    asking_cut (seat_since g.N.Node.state g.N.Node.steps g.L.Log.facts since) handed w
    c.args.at c.args.link c.args.replied c.args.framer.now.bytes
    _ _ _ c.requests.replied (c.requests.invariant.went asks since w handed router s) _

pub returns-then-replied-ge-MOST_REPLIES-clause-cut : goal.returns-then-replied-ge-MOST_REPLIES-clause-cut
returns-then-replied-ge-MOST_REPLIES-clause-cut g c asks since w handed router s =
    asking_cut (seat_since g.N.Node.state g.N.Node.steps g.L.Log.facts since) handed w
    c.args.at c.args.link c.args.replied c.args.framer.now.bytes
    _ _ _ c.requests.replied (c.requests.invariant.went asks since w handed router s) _

pub requests-smaller : goal.requests-smaller
requests-smaller g c =
    let given = next_given c.requests.framer c.next.new.self c.in-Ok-Some.field-0 c.in-Ok-Some.request c.in-Ok-Some.field-0-is c.in-Ok-Some.ensures in
    omega (
      arith,
      left_behind c.requests.framer.bytes c.next.new.self.bytes given.0 given.1.first,
      some_bytes c.requests.framer.bytes c.next.new.self.bytes given.0 given.1.first,
    )

pub requests-preserved : goal.requests-preserved
requests-preserved g c =
    let given = next_given c.requests.framer c.next.new.self c.in-Ok-Some.field-0 c.in-Ok-Some.request c.in-Ok-Some.field-0-is c.in-Ok-Some.ensures in
    record {
      len = c.ask.ensures.len ∙ c.requests.invariant.len;
      are_open = c.in-Ok.ensures.«open»;
      fault = given.1.fault;
      disks_calm = c.in-Ok.ensures.faults ∙ c.requests.invariant.disks_calm;
      places = c.ask.ensures.places ∙ c.requests.invariant.places;
      held = c.ask.ensures.held ∙ c.requests.invariant.held;
      sink = c.ask.ensures.sink ∙ c.requests.invariant.sink;
      noted = λ shown. more_then (g.K.Sink.noted c.args.out.now) (g.K.Sink.noted c.requests.out) (g.K.Sink.noted c.ask.new.out)
          (c.requests.invariant.noted shown)
          (c.ask.ensures.noted shown);
      went = λ asks since w handed router s.
          let was = c.requests.invariant.went asks since w handed router s in
          asking_more (seat_since g.N.Node.state g.N.Node.steps g.L.Log.facts since) handed w
          c.args.at c.args.link c.args.replied
          c.args.framer.now.bytes _ _ _ c.requests.replied was given.0 (g.N.Node.asks c.in-Ok-Some.request) c.next.new.self.bytes
          (to_z w32 (of_z w32 c.next_number-number.result)) given.1.first.split given.1.first.reads
          (asks c.in-Ok-Some.request given.0 given.1.meant_is)
          (number_is c.next_number-number.result c.requests.replied c.next_number-number.ensures) _ _ c.replied_after-replied.result
          (c.in-Ok.ensures.asked since was.end 0 handed was.stands was.router)
          (c.replied_after-replied.ensures ∙ ap (λ (b : Bool). replies_after b c.requests.replied) (sym given.1.meant_is.more));
    }

pub returns-in-Err-clause-cut : goal.returns-in-Err-clause-cut
returns-in-Err-clause-cut g c asks since w handed router s =
    let given = next_given c.requests.framer c.next.new.self c.in-Ok-Some.field-0 c.in-Ok-Some.request c.in-Ok-Some.field-0-is c.in-Ok-Some.ensures in
    let was = c.requests.invariant.went asks since w handed router s in
    asking_stopped (seat_since g.N.Node.state g.N.Node.steps g.L.Log.facts since) handed w
    c.args.at c.args.link c.args.replied
    c.args.framer.now.bytes _ _ _ c.requests.replied was given.0 (g.N.Node.asks c.in-Ok-Some.request) c.next.new.self.bytes
    (to_z w32 (of_z w32 c.next_number-number.result)) given.1.first.split given.1.first.reads
    (asks c.in-Ok-Some.request given.0 given.1.meant_is)
    (number_is c.next_number-number.result c.requests.replied c.next_number-number.ensures) _ _ c.in-Err.e _ c.of.ensures
    (c.in-Err.ensures.stopped since was.end 0 handed was.stands was.router)

pub returns-in-Err-clause-open : goal.returns-in-Err-clause-open
returns-in-Err-clause-open g c = λ disk. but_for_disks c.in-Err.e _ _ c.of.ensures (λ is. disk (ap Err is)) c.in-Err.ensures.«open»

pub returns-in-Err-clause-noted : goal.returns-in-Err-clause-noted
returns-in-Err-clause-noted g c shown =
    more_then (g.K.Sink.noted c.args.out.now) (g.K.Sink.noted c.requests.out) (g.K.Sink.noted c.ask.new.out) (c.requests.invariant.noted shown)
    (c.ask.ensures.noted shown)
