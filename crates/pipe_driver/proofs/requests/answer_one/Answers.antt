use Rattle.std.proofs.Common.{◌≡◌, ◌∙◌, ◌∷◌, ◌++◌, IsTrue, sym, ap, Bool, List, length, w32, to_z, of_z}
use Rattle.std.specs.Prelude.{vec_len}
use Rattle.driver_steps.specs.Crashes.{Noted, with_notes}
use Rattle.driver_steps.specs.Seats.{notes_of, seat_since}
use Rattle.driver_steps.proofs.Seats.{held_len}
use Rattle.driver_steps.specs.Worlds.{puts_given}
use Rattle.pipe_driver.specs.Rounds.{replies_after}
use Rattle.pipe_driver.specs.Stops.{at_write_fault}
use Rattle.pipe_driver.proofs.Covers.{note_served, noted_more, noted_on, noted_places, now_noted}
use Rattle.pipe_driver.proofs.Rounds.{number_is}
use Rattle.pipe_driver.proofs.Serving.{but_for_disks, covers_round, cut_in_round, put_short, served_one, stops_by}
use Rattle.pipe_driver.proofs.requests.answer_one.Goals as goal

pub returns-in-Err-clause-served : goal.returns-in-Err-clause-served
returns-in-Err-clause-served g c asks q is reads since first some held_before consumed s n =
    let as_many = c.args.seats.now.ok.0
    ∙ held_len (seat_since g.N.Node.state g.N.Node.steps g.L.Log.facts since)
    c.args.seats.now.items s.world.nodes s.stands.nodes in (
      since.noted,
      noted_places g.K.Sink.tells _ _ _ since.noted c.serve_round.ensures.places
          (noted_on g.K.Sink.tells _ (g.K.Sink.noted c.serve_round.new.out) _ since.noted c.serve_round.ensures.noted n),
      rw c.serve_round.ensures.held (stops_by (seat_since g.N.Node.state g.N.Node.steps g.L.Log.facts since)
          _ _ c.args.router first _ _ held_before _ _ c.in-Err.e _ c.of.ensures
          (cut_in_round (seat_since g.N.Node.state g.N.Node.steps g.L.Log.facts since)
          _ _ _ (g.C.Clock.gives c.args.clock.now) c.args.router first _ _ held_before _
          consumed
          c.args.replied s c.now-moment.result (to_z w32 (of_z w32 c.next_number-number.result)) (g.N.Node.asks c.args.request) q c.now-moment.ensures
          (number_is c.next_number-number.result c.args.replied c.next_number-number.ensures) (asks c.args.request q is) reads (vec_len c.args.seats.now) _
          c.in-Err.e as_many
          (c.in-Err.ensures.stopped since first s.rounds s.events s.world s.next (puts_given s.world.answered) some s.pipes s.stands))),
    )

pub returns-in-Ok-put_replies-clause-served : goal.returns-in-Ok-put_replies-clause-served
returns-in-Ok-put_replies-clause-served g c asks q is reads since first some held_before consumed s n =
    let facts = g.L.Log.facts in
    let seats = c.serve_round.new.seats.items in
    let count = length (g.K.Sink.held c.args.out.now) in
    let h = c.in-Ok.ensures.served since first s.rounds s.events s.world s.next (puts_given s.world.answered) some s.pipes s.stands in
    let numbered = number_is c.next_number-number.result c.args.replied c.next_number-number.ensures in
    let same = asks c.args.request q is in
    let taken : (IsTrue g.K.Sink.tells → g.K.Sink.noted c.put_replies.new.out ≡ g.K.Sink.noted c.serve_round.new.out ++ notes_of facts count seats) =
    λ shown. rw (sym c.serve_round.ensures.held) (c.put_replies.ensures.noted shown) in
    let noted : List Noted = now_noted facts seats h.end count ∷ since.noted in (
      noted,
      noted_more facts seats h.end count g.K.Sink.tells (g.K.Sink.noted c.serve_round.new.out) _ _ since.noted
          (noted_on g.K.Sink.tells _ (g.K.Sink.noted c.serve_round.new.out) _ since.noted c.serve_round.ensures.noted n) c.serve_round.ensures.places taken,
      served_one (seat_since g.N.Node.state g.N.Node.steps facts since)
          _ _ _ (g.C.Clock.gives c.args.clock.now) c.args.router first _ _ held_before _ consumed
          c.args.replied s c.now-moment.result (to_z w32 (of_z w32 c.next_number-number.result)) (g.N.Node.asks c.args.request) q c.now-moment.ensures
          numbered same reads
          (λ m. g.N.Mail.Mail.letter m) c.serve_round.new.network c.hand_on-replies.new.self
          (seat_since g.N.Node.state g.N.Node.steps facts (with_notes since noted)) noted
          (note_served facts seats count g.N.Node.state g.N.Node.steps since _ _ _ _ _ g.K.Sink.tells (g.K.Sink.noted c.serve_round.new.out)
          (g.K.Sink.noted c.put_replies.new.out) c.put_replies.ensures.durable taken h)
          c.hand_on-replies.ensures.waiting c.hand_on-replies.ensures.none
          (covers_round (seat_since g.N.Node.state g.N.Node.steps facts since)
          _ _ _ (g.C.Clock.gives c.args.clock.now) c.args.router first _ _ held_before _ consumed
          c.args.replied s c.now-moment.result (to_z w32 (of_z w32 c.next_number-number.result)) (g.N.Node.asks c.args.request) q c.now-moment.ensures
          numbered same reads _ h _) _ _
          (rw (c.deref.ensures.value, c.hand_on-replies.ensures.replies, c.serve_round.ensures.held) at c.in-Ok-put_replies.ensures.put)
          (c.replied_after.ensures ∙ ap (λ (b : Bool). replies_after b c.args.replied) (sym is.more)),
    )

pub returns-clause-served : goal.returns-clause-served
returns-clause-served g c asks q is reads since first some held_before consumed s n =
    let facts = g.L.Log.facts in
    let seats = c.serve_round.new.seats.items in
    let count = length (g.K.Sink.held c.args.out.now) in
    let h = c.in-Ok.ensures.served since first s.rounds s.events s.world s.next (puts_given s.world.answered) some s.pipes s.stands in
    let numbered = number_is c.next_number-number.result c.args.replied c.next_number-number.ensures in
    let same = asks c.args.request q is in
    let taken : (IsTrue g.K.Sink.tells → g.K.Sink.noted c.put_replies.new.out ≡ g.K.Sink.noted c.serve_round.new.out ++ notes_of facts count seats) =
    λ shown. rw (sym c.serve_round.ensures.held) (c.put_replies.ensures.noted shown) in
    let noted : List Noted = now_noted facts seats h.end count ∷ since.noted in (
      noted,
      noted_more facts seats h.end count g.K.Sink.tells (g.K.Sink.noted c.serve_round.new.out) _ _ since.noted
          (noted_on g.K.Sink.tells _ (g.K.Sink.noted c.serve_round.new.out) _ since.noted c.serve_round.ensures.noted n) c.serve_round.ensures.places taken,
      at_write_fault (put_short (seat_since g.N.Node.state g.N.Node.steps facts since)
          _ _ _ (g.C.Clock.gives c.args.clock.now) c.args.router first _ _ held_before _ consumed
          c.args.replied s c.now-moment.result (to_z w32 (of_z w32 c.next_number-number.result)) (g.N.Node.asks c.args.request) q c.now-moment.ensures
          numbered same reads
          (λ m. g.N.Mail.Mail.letter m) c.serve_round.new.network c.hand_on-replies.new.self
          (seat_since g.N.Node.state g.N.Node.steps facts (with_notes since noted)) noted
          (note_served facts seats count g.N.Node.state g.N.Node.steps since _ _ _ _ _ g.K.Sink.tells (g.K.Sink.noted c.serve_round.new.out)
          (g.K.Sink.noted c.put_replies.new.out) c.put_replies.ensures.durable taken h)
          c.hand_on-replies.ensures.waiting c.hand_on-replies.ensures.none
          (covers_round (seat_since g.N.Node.state g.N.Node.steps facts since)
          _ _ _ (g.C.Clock.gives c.args.clock.now) c.args.router first _ _ held_before _ consumed
          c.args.replied s c.now-moment.result (to_z w32 (of_z w32 c.next_number-number.result)) (g.N.Node.asks c.args.request) q c.now-moment.ensures
          numbered same reads _ h _) _
          (rw (c.deref.ensures.value, c.hand_on-replies.ensures.replies, c.serve_round.ensures.held) at c.in-Err-put_replies.ensures.prefix)),
    )

pub returns-in-Err-clause-open_err : goal.returns-in-Err-clause-open_err
returns-in-Err-clause-open_err g c = λ disk. but_for_disks c.in-Err.e _ _ c.of.ensures disk c.in-Err.ensures.«open»
