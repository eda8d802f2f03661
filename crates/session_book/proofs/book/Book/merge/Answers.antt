use Rattle.std.proofs.Common.{◌≡◌, ◌∙◌, length, take, sym, ap, refl}
use Rattle.std.proofs.lemmas.List.{map-id}
use Rattle.std.proofs.lemmas.Iterator.Adapters.{YieldsList-from_vec}
use Rattle.std.proofs.lemmas.Iterator.Consumers.{YieldsList-end, YieldsList-so_far, YieldsList-turn}
use Rattle.history_model.specs.Merges.{seen_by_both}
use Rattle.history_model.specs.Notes.{seen}
use Rattle.history_model.proofs.Merged.{seen_after_others}
use Rattle.statement_views.specs.Views.{session_view}
use Rattle.session_book.specs.Records.{count_of, session_notes}
use Rattle.session_book.proofs.Joined.{count_push, count_reached, room_left, room_on, session_joined}
use Rattle.session_book.proofs.book.Book.merge.Goals as goal

pub merge_session-requires : goal.merge_session-requires
merge_session-requires c =
    let road = YieldsList-from_vec {s = c.into_iter-record-iterator.result} c.args.other.sessions.items (cc) (cc) in
    let turn = YieldsList-turn road c.loop-record.yielded c.loop-record.record-iterator c.loop-record.yielded_by c.next.result c.next.new.self c.in-Some.record c.in-Some.is c.next.ensures.steps in
    let so_far : c.loop-record.yielded ≡ take (length c.loop-record.yielded) c.args.other.sessions.items = sym (map-id c.loop-record.yielded) ∙ YieldsList-so_far road c.loop-record.yielded c.loop-record.record-iterator c.loop-record.yielded_by in
    let s = session_view c.in-Some.record.session in
    let reached = count_reached s c.args.other.sessions.items (length c.loop-record.yielded) c.in-Some.record turn.0 turn.1 in
    record { room = room_left s c.in-Some.record _ _ _ _ _ (sym (ap (λ rs. count_of s rs) so_far)) reached (c.requires.room c.in-Some.record.session) (c.loop-record.invariant.3 c.in-Some.record.session) refl }

pub loop-record-preserved : goal.loop-record-preserved
loop-record-preserved c = (
  tt,
  tt,
  (λ n. session_joined _ _ _ c.loop-record.yielded c.in-Some.record n (c.loop-record.invariant.2 n) (c.merge_session.ensures.seen n)),
  (λ t. room_on _ _ _ _ _ _ (count_push (session_view t) c.loop-record.yielded c.in-Some.record) (c.loop-record.invariant.3 t) (c.merge_session.ensures.room t)),
)

pub returns-clause-so_far : goal.returns-clause-so_far
returns-clause-so_far c = λ notes are n.
    let road = YieldsList-from_vec {s = c.into_iter-record-iterator.result} c.args.other.sessions.items (cc) (cc) in
    let end = YieldsList-end road c.loop-record.yielded c.loop-record.record-iterator c.loop-record.yielded_by c.next.result c.next.new.self c.in-None.is c.next.ensures.steps in
    let whole : c.loop-record.yielded ≡ c.args.other.sessions.items = sym (map-id c.loop-record.yielded) ∙ end.0 in
    c.loop-record.invariant.2 n
    ∙ ap (λ x. seen_by_both x (seen (session_notes c.loop-record.yielded) n)) (are n)
    ∙ ap (λ rs. seen_by_both (seen notes n) (seen (session_notes rs) n)) whole
    ∙ sym (seen_after_others notes (session_notes c.args.other.sessions.items) n)
