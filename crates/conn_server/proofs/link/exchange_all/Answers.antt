use Rattle.std.proofs.Common.{◌∙◌, ◌++◌, ap, refl, sym}
use Rattle.opmsg_frames.specs.Outlines.{fault_view}
use Rattle.pipe_driver.proofs.Framings.{next_given, next_malformed, next_none, still_partial}
use Rattle.conn_server.proofs.Framed.{one_split, rest_malformed, same_framer}
use Rattle.conn_server.proofs.Shown.{has_as, shown_by}
use Rattle.conn_server.proofs.Written.{some_end, some_lost, some_malformed, some_none, some_one, some_then}
use Rattle.conn_server.proofs.link.exchange_all.Goals as goal

pub requests-init : goal.requests-init
requests-init g c = record {
  link = refl;
  left = refl;
  fault = λ none. none;
  some = some_none g.S.Sink.tells (g.S.Sink.held c.args.link.now) c.args.talk.now.said c.args.framer.now.offset c.args.framer.now.bytes;
  shown = λ before has. has;
}

pub as_read-requires : goal.as_read-requires
as_read-requires g c =
    let given = next_given c.requests.framer c.next_request.new.framer c.in-Ok-Some.field-0 c.in-Ok-Some.request c.in-Ok-Some.field-0-is c.in-Ok-Some.ensures in
    (given.0, given.1.meant_is, given.1.first.reads)

pub requests-preserved : goal.requests-preserved
requests-preserved g c =
    let given = next_given c.requests.framer c.next_request.new.framer c.in-Ok-Some.field-0 c.in-Ok-Some.request c.in-Ok-Some.field-0-is c.in-Ok-Some.ensures in
    let one = one_split c.requests.framer c.next_request.new.framer c.in-Ok-Some.request given.0 given.1 in
    record {
      link = c.exchange.ensures.link ∙ c.requests.invariant.link;
      left = c.exchange.ensures.left ∙ c.requests.invariant.left;
      fault = λ none. given.1.fault;
      some = some_then g.S.Sink.tells _ _ _ _ _ _ _ _ _ _ _ _ c.requests.invariant.some
          (some_one g.S.Sink.tells _ _ _ _ _ _ c.in-Ok-Some.request.bytes _ _ one.0 one.1
          (rw c.as_read.ensures at c.in-Ok.ensures.spoke));
      shown = λ before has.
          has_as g.S.Sink.tells _ _ _ _ before _ c.requests.talk.link c.args.talk.now.link _ refl refl (sym c.requests.invariant.link)
          (c.in-Ok.ensures.shown before
          (has_as g.S.Sink.tells _ _ _ _ before _ c.args.talk.now.link c.requests.talk.link _ refl refl c.requests.invariant.link
          (c.requests.invariant.shown before has)));
    }

pub returns-in-Ok-None-clause-partial : goal.returns-in-Ok-None-clause-partial
returns-in-Ok-None-clause-partial g c =
    let told = next_none c.requests.framer c.next_request.new.framer c.in-Ok-None.field-0 c.in-Ok-None.field-0-is c.in-Ok-None.ensures in
    λ none. (still_partial c.requests.framer c.next_request.new.framer told.1 told.0, ap (λ f. f.fault) told.1 ∙ c.requests.invariant.fault none)

pub returns-in-Ok-None-clause-spoke : goal.returns-in-Ok-None-clause-spoke
returns-in-Ok-None-clause-spoke g c =
    let told = next_none c.requests.framer c.next_request.new.framer c.in-Ok-None.field-0 c.in-Ok-None.field-0-is c.in-Ok-None.ensures in
    same_framer g.S.Sink.tells _ _ _ _ _ _ c.requests.framer c.next_request.new.framer told.1 c.requests.invariant.some

pub returns-in-Err-Malformed-clause-ended : goal.returns-in-Err-Malformed-clause-ended
returns-in-Err-Malformed-clause-ended g c =
    let told = next_malformed c.requests.framer c.next_request.new.framer c.in-Err-Malformed.field-0 c.in-Err-Malformed.field-0-0 c.in-Err-Malformed.place
    c.in-Err-Malformed.field-0-is c.in-Err-Malformed.ensures in
    λ none. rw c.in-Err-Malformed.field-0-is (some_malformed g.S.Sink.tells _ _ _ _ _ _ _ _ _
    (rest_malformed c.requests.framer c.next_request.new.framer (fault_view c.in-Err-Malformed.field-0-0) c.in-Err-Malformed.place (c.requests.invariant.fault none) told)
    c.requests.invariant.some)

pub returns-in-Err-Memory-clause-ended : goal.returns-in-Err-Memory-clause-ended
returns-in-Err-Memory-clause-ended g c = λ none. some_lost g.S.Sink.tells _ _ _ _ _ _ _ _ c.requests.invariant.some

pub returns-in-Err-clause-ended : goal.returns-in-Err-clause-ended
returns-in-Err-clause-ended g c =
    let given = next_given c.requests.framer c.next_request.new.framer c.in-Ok-Some.field-0 c.in-Ok-Some.request c.in-Ok-Some.field-0-is c.in-Ok-Some.ensures in
    let one = one_split c.requests.framer c.next_request.new.framer c.in-Ok-Some.request given.0 given.1 in
    λ none. some_end c.in-Err.end g.S.Sink.tells _ _ _ _ _ _ _ _ _ _ (c.in-Ok-Some.request.bytes ++ c.next_request.new.framer.bytes) one.0 c.requests.invariant.some
    (rw c.as_read.ensures at c.in-Err.ensures.ended c.requests.framer.offset c.next_request.new.framer.bytes)

-- WHAT IS NOTED BEFORE REPLIES ARE WRITTEN

pub returns-in-Ok-None-clause-shown : goal.returns-in-Ok-None-clause-shown
returns-in-Ok-None-clause-shown g c = λ before has. c.requests.invariant.shown before has

pub returns-in-Err-Malformed-clause-shown_end : goal.returns-in-Err-Malformed-clause-shown_end
returns-in-Err-Malformed-clause-shown_end g c = λ before has. (c.requests.invariant.shown before has).shown

pub returns-in-Err-Memory-clause-shown_end : goal.returns-in-Err-Memory-clause-shown_end
returns-in-Err-Memory-clause-shown_end g c = λ before has. (c.requests.invariant.shown before has).shown

pub returns-in-Err-clause-shown_end : goal.returns-in-Err-clause-shown_end
returns-in-Err-clause-shown_end g c = λ before has.
    shown_by g.S.Sink.tells _ _ before _ c.requests.talk.link c.args.talk.now.link _ refl (sym c.requests.invariant.link)
    (c.in-Err.ensures.shown_end before
    (has_as g.S.Sink.tells _ _ _ _ before _ c.args.talk.now.link c.requests.talk.link _ refl refl c.requests.invariant.link
    (c.requests.invariant.shown before has)))

pub returns-clause-shown_end : goal.returns-clause-shown_end
returns-clause-shown_end g c = λ before has. (c.requests.invariant.shown before has).shown
