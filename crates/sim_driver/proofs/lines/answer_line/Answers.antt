use Rattle.std.proofs.Common.{◌≡◌, ◌∷◌, ◌++◌, IsTrue, List, length, sym}
use Rattle.driver_steps.specs.Crashes.{Noted, with_notes}
use Rattle.driver_steps.specs.Seats.{notes_of, seat_since}
use Rattle.driver_steps.specs.Worlds.{puts_given}
use Rattle.pipe_driver.proofs.Covers.{noted_more, noted_on, noted_places, now_noted}
use Rattle.sim_driver.specs.Scripts.{script_view}
use Rattle.sim_driver.proofs.PlayedLines.{note_played}
use Rattle.sim_driver.proofs.Plays.{plays_marks, plays_may_stop, plays_script}
use Rattle.sim_driver.proofs.Steps.{covers_line, line_answered, line_put_short, line_stopped, line_unprinted, playing_full}
use Rattle.sim_driver.proofs.lines.answer_line.Goals as goal

pub returns-in-Err-clause-stopped : goal.returns-in-Err-clause-stopped
returns-in-Err-clause-stopped g c asks told since first_router first some parts held_before consumed others p n = (
  since.noted,
  n,
  playing_full (seat_since g.N.Node.state g.N.Node.steps g.L.Log.facts since) _ _ first_router first _ _ held_before _ consumed (c.args.line.now ++ 10 ∷ others)
      (script_view c.args.script.now) p,
)

pub returns-in-Err-play_line-clause-stopped : goal.returns-in-Err-play_line-clause-stopped
returns-in-Err-play_line-clause-stopped g c asks told since first_router first some parts held_before consumed others p n =
    let may = plays_may_stop (g.O.Opens.part c.args.opener.now) first_router first some.begins parts p.lines p.events p.world
    (script_view c.args.script.now) p.out p.plays in
    let router = plays_script (g.O.Opens.part c.args.opener.now) first_router first some.begins parts some.routers p.lines p.events p.world
    (script_view c.args.script.now) p.out p.plays in
    let next = plays_marks first_router first p.lines p.events p.world (script_view c.args.script.now) p.out p.plays in (
      since.noted,
      noted_places g.K.Sink.tells _ _ _ since.noted c.play_line.ensures.places
          (noted_on g.K.Sink.tells _ (g.K.Sink.noted c.play_line.new.out) _ since.noted c.play_line.ensures.noted n),
      rw c.play_line.ensures.held (line_stopped (seat_since g.N.Node.state g.N.Node.steps g.L.Log.facts since) _ _ _ first_router first
          _ _ held_before _ consumed (script_view c.args.script.now) p c.args.line.now
          c.requires.line others c.in-Err-play_line.status (c.in-Err-play_line.ensures.stops asks told since p.world
          (puts_given p.world.answered) may router next p.stands)),
    )

pub returns-in-Err-text_of-clause-stopped : goal.returns-in-Err-text_of-clause-stopped
returns-in-Err-text_of-clause-stopped g c asks told since first_router first some parts held_before consumed others p n =
    let may = plays_may_stop (g.O.Opens.part c.args.opener.now) first_router first some.begins parts p.lines p.events p.world
    (script_view c.args.script.now) p.out p.plays in
    let router = plays_script (g.O.Opens.part c.args.opener.now) first_router first some.begins parts some.routers p.lines p.events p.world
    (script_view c.args.script.now) p.out p.plays in
    let next = plays_marks first_router first p.lines p.events p.world (script_view c.args.script.now) p.out p.plays in
    let h = c.in-Ok-play_line.ensures.played asks told since p.world (puts_given p.world.answered) may router next p.stands in (
      since.noted,
      noted_places g.K.Sink.tells _ _ _ since.noted c.play_line.ensures.places
          (noted_on g.K.Sink.tells _ (g.K.Sink.noted c.play_line.new.out) _ since.noted c.play_line.ensures.noted n),
      rw c.play_line.ensures.held (line_unprinted (seat_since g.N.Node.state g.N.Node.steps g.L.Log.facts since) _ _ _
          first_router first _ _ held_before _ consumed (script_view c.args.script.now) p c.args.line.now
          c.requires.line (λ m. g.N.Mail.Mail.letter m) c.play_line.new.network c.hand_on-replies.new.self
          (script_view c.play_line.new.script) c.in-Ok-play_line.closed
          h others),
    )

pub returns-in-Ok-put_text-clause-answered : goal.returns-in-Ok-put_text-clause-answered
returns-in-Ok-put_text-clause-answered g c asks told since first_router first some parts held_before consumed p n =
    let may = plays_may_stop (g.O.Opens.part c.args.opener.now) first_router first some.begins parts p.lines p.events p.world
    (script_view c.args.script.now) p.out p.plays in
    let router = plays_script (g.O.Opens.part c.args.opener.now) first_router first some.begins parts some.routers p.lines p.events p.world
    (script_view c.args.script.now) p.out p.plays in
    let next = plays_marks first_router first p.lines p.events p.world (script_view c.args.script.now) p.out p.plays in
    let h = c.in-Ok-play_line.ensures.played asks told since p.world (puts_given p.world.answered) may router next p.stands in
    let facts = g.L.Log.facts in
    let seats = c.play_line.new.seats.items in
    let count = length (g.K.Sink.held c.args.out.now) in
    let taken : (IsTrue g.K.Sink.tells → g.K.Sink.noted c.put_text.new.out ≡ g.K.Sink.noted c.play_line.new.out ++ notes_of facts count seats) =
    λ shown. rw (sym c.play_line.ensures.held) (c.put_text.ensures.noted shown) in
    let noted : List Noted = now_noted facts seats h.played.end count ∷ since.noted in (
      noted,
      noted_more facts seats h.played.end count g.K.Sink.tells (g.K.Sink.noted c.play_line.new.out) _ _ since.noted
          (noted_on g.K.Sink.tells _ (g.K.Sink.noted c.play_line.new.out) _ since.noted c.play_line.ensures.noted n) c.play_line.ensures.places taken,
      line_answered (seat_since g.N.Node.state g.N.Node.steps facts since) _ _ _ first_router first
          _ _ held_before _ consumed (script_view c.args.script.now) p c.args.line.now
          c.requires.line (λ m. g.N.Mail.Mail.letter m) c.play_line.new.network c.hand_on-replies.new.self
          (script_view c.play_line.new.script) c.in-Ok-play_line.closed
          (seat_since g.N.Node.state g.N.Node.steps facts (with_notes since noted)) noted
          (note_played facts seats count g.N.Node.state g.N.Node.steps since _ _ _ _ _ _ _ g.K.Sink.tells (g.K.Sink.noted c.play_line.new.out)
          (g.K.Sink.noted c.put_text.new.out) c.put_text.ensures.durable taken h)
          (covers_line (seat_since g.N.Node.state g.N.Node.steps facts since) _ _ _ first_router first
          _ _ held_before _ consumed (script_view c.args.script.now) p c.args.line.now
          c.requires.line (λ m. g.N.Mail.Mail.letter m) c.play_line.new.network c.hand_on-replies.new.self
          (script_view c.play_line.new.script) c.in-Ok-play_line.closed
          h _) _
          c.hand_on-replies.ensures.waiting c.hand_on-replies.ensures.none
          (rw (
            c.as_slice.ensures.value,
            c.in-Ok-text_of.ensures,
            c.deref-2.ensures.value,
            c.in-Ok.ensures,
            c.deref.ensures.value,
            c.deref-3.ensures.value,
            c.hand_on-replies.ensures.replies,
            c.play_line.ensures.held,
          ) at
          c.in-Ok-put_text.ensures.put),
    )

pub returns-clause-stopped : goal.returns-clause-stopped
returns-clause-stopped g c asks told since first_router first some parts held_before consumed others p n =
    let may = plays_may_stop (g.O.Opens.part c.args.opener.now) first_router first some.begins parts p.lines p.events p.world
    (script_view c.args.script.now) p.out p.plays in
    let router = plays_script (g.O.Opens.part c.args.opener.now) first_router first some.begins parts some.routers p.lines p.events p.world
    (script_view c.args.script.now) p.out p.plays in
    let next = plays_marks first_router first p.lines p.events p.world (script_view c.args.script.now) p.out p.plays in
    let h = c.in-Ok-play_line.ensures.played asks told since p.world (puts_given p.world.answered) may router next p.stands in
    let facts = g.L.Log.facts in
    let seats = c.play_line.new.seats.items in
    let count = length (g.K.Sink.held c.args.out.now) in
    let taken : (IsTrue g.K.Sink.tells → g.K.Sink.noted c.put_text.new.out ≡ g.K.Sink.noted c.play_line.new.out ++ notes_of facts count seats) =
    λ shown. rw (sym c.play_line.ensures.held) (c.put_text.ensures.noted shown) in
    let noted : List Noted = now_noted facts seats h.played.end count ∷ since.noted in (
      noted,
      noted_more facts seats h.played.end count g.K.Sink.tells (g.K.Sink.noted c.play_line.new.out) _ _ since.noted
          (noted_on g.K.Sink.tells _ (g.K.Sink.noted c.play_line.new.out) _ since.noted c.play_line.ensures.noted n) c.play_line.ensures.places taken,
      line_put_short (seat_since g.N.Node.state g.N.Node.steps facts since) _ _ _
          first_router first _ _ held_before _ consumed (script_view c.args.script.now) p c.args.line.now
          c.requires.line (λ m. g.N.Mail.Mail.letter m) c.play_line.new.network c.hand_on-replies.new.self
          (script_view c.play_line.new.script) c.in-Ok-play_line.closed
          (seat_since g.N.Node.state g.N.Node.steps facts (with_notes since noted)) noted
          (note_played facts seats count g.N.Node.state g.N.Node.steps since _ _ _ _ _ _ _ g.K.Sink.tells (g.K.Sink.noted c.play_line.new.out)
          (g.K.Sink.noted c.put_text.new.out) c.put_text.ensures.durable taken h)
          (covers_line (seat_since g.N.Node.state g.N.Node.steps facts since) _ _ _ first_router first
          _ _ held_before _ consumed (script_view c.args.script.now) p c.args.line.now
          c.requires.line (λ m. g.N.Mail.Mail.letter m) c.play_line.new.network c.hand_on-replies.new.self
          (script_view c.play_line.new.script) c.in-Ok-play_line.closed
          h _) others _
          (rw (
            c.as_slice.ensures.value,
            c.in-Ok-text_of.ensures,
            c.deref-2.ensures.value,
            c.in-Ok.ensures,
            c.deref.ensures.value,
            c.deref-3.ensures.value,
            c.hand_on-replies.ensures.replies,
            c.play_line.ensures.held,
          ) at
          c.in-Err-put_text.ensures.prefix),
    )
