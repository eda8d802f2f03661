use Rattle.std.proofs.Common.{◌≡◌, ◌≤◌, Some, None, sym, ap, ◌∙◌, arith, rules}
use Rattle.std.specs.Prelude.{FitsSigned}
use Rattle.std.specs.Int.{w64}
use Rattle.std.specs.List.{slice_set}
use Rattle.std.proofs.Math.Facts.{to_z-of_z}
use Rattle.history_model.specs.Notes.{seen_with}
use Rattle.session_book.specs.Meanings.{session_view, number_view}
use Rattle.session_book.specs.Places.{place_of, statements_at}
use Rattle.session_book.specs.Books.{kept_of, room_of, seen_in, room_in, note_view}
use Rattle.session_book.proofs.Places.{kept_by, kept_there, changes_there}
use Rattle.session_book.proofs.Booked.{seen_noted, room_less, room_elsewhere}
use Rattle.history_model.proofs.Noted.{one_more_note}
use Rattle.session_book.proofs.book.Book.note.Goals as goal

pub index_mut-kept-requires : goal.index_mut-kept-requires
index_mut-kept-requires c =
    let s = session_view c.args.s.now.session in
    let at : place_of c.args.self.now.places.entries s ≡ Some c.in-Some.place = sym c.in-Some.ensures in
    rw c.args.self.now.kept.ok.0 (c.args.self.now.apart.inside s c.in-Some.place at)

pub note-requires-clause-room : goal.note-requires-clause-room
unfolding room_in
note-requires-clause-room c =
    let s = session_view c.args.s.now.session in
    let at : place_of c.args.self.now.places.entries s ≡ Some c.in-Some.place = sym c.in-Some.ensures in
    let here : kept_of c.args.self.now s ≡ Some c.index_mut-kept.result.now =
    kept_there c.args.self.now.places.entries c.args.self.now.kept.items c.args.self.now.apart s c.in-Some.place at c.index_mut-kept.result.now c.index_mut-kept.ensures.value in
    rw here at c.requires.room

pub note-requires-clause-new : goal.note-requires-clause-new
unfolding seen_in
note-requires-clause-new c =
    let fits : FitsSigned w64 c.args.s.now.txn = search rules in
    let s = session_view c.args.s.now.session in
    let at : place_of c.args.self.now.places.entries s ≡ Some c.in-Some.place = sym c.in-Some.ensures in
    let here : kept_of c.args.self.now s ≡ Some c.index_mut-kept.result.now =
    kept_there c.args.self.now.places.entries c.args.self.now.kept.items c.args.self.now.apart s c.in-Some.place at c.index_mut-kept.result.now c.index_mut-kept.ensures.value in
    rw (to_z-of_z fits) (rw here at c.requires.new)

pub returns-in-Some : goal.returns-in-Some
unfolding seen_in room_in
returns-in-Some c =
    let stmt = c.args.s.now in
    let s = session_view c.args.s.now.session in
    let es = c.args.self.now.places.entries in
    let kept = c.args.self.now.kept.items in
    let place = c.in-Some.place in
    let was = c.index_mut-kept.result.now in
    let now = c.note.new.self in
    let old = kept_by es kept in
    let new = kept_by es (slice_set kept place now) in
    let fits : FitsSigned w64 c.args.s.now.txn = search rules in
    let at : place_of c.args.self.now.places.entries s ≡ Some c.in-Some.place = sym c.in-Some.ensures in
    let change = changes_there es kept c.args.self.now.apart s place at now was c.index_mut-kept.ensures.value in
    let seen = seen_noted stmt c.args.time c.args.reply old new was now change (rw (to_z-of_z fits) at c.note.ensures.seen) in
    record {
      seen = seen;
      so_far = λ notes are n. seen n ∙ ap (λ b. seen_with (note_view stmt c.args.time c.args.reply) n b) (are n) ∙ sym (one_more_note notes (note_view stmt c.args.time c.args.reply) n (sym (are (number_view stmt)) ∙ c.requires.new));
      room = λ t. room_less s old new (Some was) now change 1 c.note.ensures.room (session_view t);
      other_rooms = λ t apart. room_elsewhere s old new (Some was) now change (session_view t) apart;
    }

pub returns-in_default : goal.returns-in_default
unfolding room_in
returns-in_default c =
    let s = session_view c.args.s.now.session in
    let at : place_of c.args.self.now.places.entries s ≡ None = sym c.in_default.ensures in
    let room : 1 ≤ room_of (statements_at c.args.self.now.kept.items None) = rw at at c.requires.room in
    absurd (omega (arith, room))
