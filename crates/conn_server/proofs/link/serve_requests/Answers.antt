use Rattle.std.proofs.Common.{◌≡◌, ◌∙◌, ℕ, List, [], ◌++◌, length, take, ap, refl, sym}
use Rattle.pipe_driver.proofs.Framings.{all_fed}
use Rattle.conn_server.proofs.Shown.{has_as, has_none, shown_by}
use Rattle.conn_server.proofs.Taken.{took_more, talked_long, talked_lost, talked_no_more, talked_on, talked_out}
use Rattle.conn_server.proofs.Written.{end_unasked, some_fed, some_none, some_then}
use Rattle.conn_server.proofs.link.serve_requests.Goals as goal

pub returns-in_default-clause-talked : goal.returns-in_default-clause-talked
returns-in_default-clause-talked g c = record {
  read = [];
  took = λ told. refl;
  to_end = λ is. cc;
  spoke = end_unasked g.S.Sink.tells (g.S.Sink.held c.args.link.now) [] c.args.talk.now.said 0 [] c.requires;
}

pub pieces-init : goal.pieces-init
pieces-init g c = record {
  len = c.in-Ok.ensures;
  fault = rw c.new-framer.ensures refl;
  partial = rw c.new-framer.ensures refl;
  went = (
    [],
    (λ told. refl),
    rw (c.new-framer.ensures, c.requires) (some_none g.S.Sink.tells (g.S.Sink.held c.args.link.now) [] 0 []),
  );
  link = refl;
  shown = has_none g.S.Sink.tells (g.S.Sink.held c.args.link.now) (g.S.Sink.noted c.args.link.now) c.args.talk.now.note.safe c.args.talk.now.link
      c.args.talk.now.said c.requires;
}

pub returns-then-taken-ge-MOST_TAKEN-clause-talked : goal.returns-then-taken-ge-MOST_TAKEN-clause-talked
returns-then-taken-ge-MOST_TAKEN-clause-talked g c =
    let went = c.pieces.invariant.went in
    talked_long g.S.Source.tells g.S.Source.left g.S.Sink.tells g.S.Sink.held g.S.Sink.noted g.S.Link.is_closed c.args.link.now c.pieces.link c.pieces.talk.said
    went.0 c.pieces.framer.bytes c.pieces.framer.offset went.1 c.pieces.invariant.partial went.2

pub returns-in-Err-clause-talked : goal.returns-in-Err-clause-talked
returns-in-Err-clause-talked g c =
    let went = c.pieces.invariant.went in
    talked_out g.S.Source.tells g.S.Source.left g.S.Sink.tells g.S.Sink.held g.S.Sink.noted g.S.Link.is_closed c.args.link.now c.pieces.link c.take_some.new.link
    c.pieces.talk.said c.in-Err.end went.0 c.pieces.framer.bytes c.pieces.framer.offset went.1 c.in-Err.ensures.nothing c.take_some.ensures.held
    c.in-Err.ensures.ends c.in-Err.ensures.at_end c.pieces.invariant.partial went.2

pub returns-in_default-feed-clause-talked : goal.returns-in_default-feed-clause-talked
returns-in_default-feed-clause-talked g c =
    let went = c.pieces.invariant.went in
    talked_no_more g.S.Source.tells g.S.Source.left g.S.Sink.tells g.S.Sink.held g.S.Sink.noted g.S.Link.is_closed c.args.link.now c.pieces.link c.take_some.new.link
    c.pieces.talk.said went.0 c.pieces.framer.bytes (take c.in-Ok-take_some.count c.take_some.new.piece.items) c.pieces.framer.offset went.1
    c.in-Ok-take_some.ensures.took c.take_some.ensures.held went.2

pub pieces-preserved : goal.pieces-preserved
pieces-preserved g c =
    let went = c.pieces.invariant.went in
    let bytes : List ℕ = take c.in-Ok-take_some.count c.take_some.new.piece.items in
    let step = c.in-Ok-feed.ensures.taken in
    let calm = step.2 ∙ c.pieces.invariant.fault in
    let fed : c.feed.new.self.bytes ≡ c.pieces.framer.bytes ++ bytes =
    all_fed c.pieces.framer.bytes c.pieces.framer.bytes c.feed.new.self.bytes _ bytes refl step.0
    (ap (λ (b : List ℕ). take c.in-Ok-take_some.count b) c.deref.ensures.value) in
    record {
      len = c.take_some.ensures.len ∙ c.pieces.invariant.len;
      fault = (c.in-Ok-exchange_all.ensures.partial calm).1;
      partial = (c.in-Ok-exchange_all.ensures.partial calm).0;
      went = (
        went.0 ++ bytes,
        took_more g.S.Source.tells _ _ _ _ went.0 bytes went.1 c.in-Ok-take_some.ensures.took c.exchange_all.ensures.left,
        some_then g.S.Sink.tells _ _ _ _ _ _ _ _ _ _ _ _
            (some_fed g.S.Sink.tells _ _ _ _ _ _ _ c.pieces.framer.bytes bytes c.feed.new.self.bytes fed
            (rw (c.take_some.ensures.held, step.1) went.2)) c.in-Ok-exchange_all.ensures.spoke,
      );
      link = c.exchange_all.ensures.link ∙ c.pieces.invariant.link;
      shown = has_as g.S.Sink.tells _ _ _ _ (length (g.S.Sink.held c.args.link.now)) _ c.pieces.talk.link c.args.talk.now.link _ refl refl
          (sym c.pieces.invariant.link)
          (c.in-Ok-exchange_all.ensures.shown (length (g.S.Sink.held c.args.link.now))
          (has_as g.S.Sink.tells _ _ _ _ (length (g.S.Sink.held c.args.link.now)) _ c.args.talk.now.link c.pieces.talk.link _ c.take_some.ensures.held
          c.take_some.ensures.noted c.pieces.invariant.link c.pieces.invariant.shown));
    }

pub returns-in-Err-exchange_all-clause-talked : goal.returns-in-Err-exchange_all-clause-talked
returns-in-Err-exchange_all-clause-talked g c =
    let went = c.pieces.invariant.went in
    let bytes : List ℕ = take c.in-Ok-take_some.count c.take_some.new.piece.items in
    let step = c.in-Ok-feed.ensures.taken in
    let calm = step.2 ∙ c.pieces.invariant.fault in
    let fed : c.feed.new.self.bytes ≡ c.pieces.framer.bytes ++ bytes =
    all_fed c.pieces.framer.bytes c.pieces.framer.bytes c.feed.new.self.bytes _ bytes refl step.0
    (ap (λ (b : List ℕ). take c.in-Ok-take_some.count b) c.deref.ensures.value) in
    talked_on g.S.Source.tells g.S.Source.left g.S.Sink.tells g.S.Sink.held g.S.Sink.noted g.S.Link.is_closed c.args.link.now c.pieces.link c.take_some.new.link
    c.exchange_all.new.link c.pieces.talk.said c.exchange_all.new.talk.said c.in-Err-exchange_all.end went.0 bytes c.pieces.framer.bytes
    c.feed.new.self.bytes c.pieces.framer.offset c.feed.new.self.offset went.1 c.in-Ok-take_some.ensures.took c.exchange_all.ensures.left
    c.take_some.ensures.held step.1 fed c.in-Err-exchange_all.ensures.other went.2 (c.in-Err-exchange_all.ensures.ended calm)

pub returns-clause-talked : goal.returns-clause-talked
returns-clause-talked g c =
    let went = c.pieces.invariant.went in
    talked_lost g.S.Source.tells g.S.Source.left g.S.Sink.tells g.S.Sink.held g.S.Sink.noted g.S.Link.is_closed c.args.link.now c.pieces.link c.pieces.talk.said
    went.0 c.pieces.framer.bytes c.pieces.framer.offset went.1 went.2

-- WHAT IS NOTED BEFORE REPLIES ARE WRITTEN

pub returns-in_default-clause-shown : goal.returns-in_default-clause-shown
returns-in_default-clause-shown g c =
    (has_none g.S.Sink.tells (g.S.Sink.held c.args.link.now) (g.S.Sink.noted c.args.link.now) c.args.talk.now.note.safe c.args.talk.now.link
    c.args.talk.now.said c.requires).shown

pub returns-then-taken-ge-MOST_TAKEN-clause-shown : goal.returns-then-taken-ge-MOST_TAKEN-clause-shown
returns-then-taken-ge-MOST_TAKEN-clause-shown g c = c.pieces.invariant.shown.shown

pub returns-in-Err-clause-shown : goal.returns-in-Err-clause-shown
returns-in-Err-clause-shown g c = shown_by g.S.Sink.tells _ _ _ _ _ _ _ c.take_some.ensures.noted refl c.pieces.invariant.shown.shown

pub returns-in_default-feed-clause-shown : goal.returns-in_default-feed-clause-shown
returns-in_default-feed-clause-shown g c = shown_by g.S.Sink.tells _ _ _ _ _ _ _ c.take_some.ensures.noted refl c.pieces.invariant.shown.shown

pub returns-in-Err-exchange_all-clause-shown : goal.returns-in-Err-exchange_all-clause-shown
returns-in-Err-exchange_all-clause-shown g c =
    shown_by g.S.Sink.tells _ _ (length (g.S.Sink.held c.args.link.now)) _ c.pieces.talk.link c.args.talk.now.link _ refl (sym c.pieces.invariant.link)
    (c.in-Err-exchange_all.ensures.shown_end (length (g.S.Sink.held c.args.link.now))
    (has_as g.S.Sink.tells _ _ _ _ (length (g.S.Sink.held c.args.link.now)) _ c.args.talk.now.link c.pieces.talk.link _ c.take_some.ensures.held
    c.take_some.ensures.noted c.pieces.invariant.link c.pieces.invariant.shown))

pub returns-clause-shown : goal.returns-clause-shown
returns-clause-shown g c = c.pieces.invariant.shown.shown

pub returns-in-Err-exchange_all-clause-link : goal.returns-in-Err-exchange_all-clause-link
returns-in-Err-exchange_all-clause-link g c = c.exchange_all.ensures.link ∙ c.pieces.invariant.link
